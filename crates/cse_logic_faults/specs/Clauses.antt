-- Words for the clauses: the faults of what was parsed, by its trees.
use Rattle.std.specs.Prelude.{ℕ, not, ◌==◌, List, ◌++◌, map, Option, Some}
use Rattle.std.specs.Option.{option_map}
use Rattle.cse_syntax_tree.specs.declared.tree.Counting as rustcounting
use Rattle.cse_syntax_tree.specs.declared.tree.Expression as rustexpression
use Rattle.cse_syntax_tree.specs.declared.tree.Lexeme.{Lexeme}
use Rattle.cse_syntax_tree.specs.declared.tree.Message as rustmessage
use Rattle.cse_syntax_tree.specs.declared.tree.Place.{Place}
use Rattle.cse_syntax_tree.specs.First.{message_token}
use Rattle.cse_syntax_tree.specs.Tree.{Stmt, Assign, Call, Impute, written, expr, exprs, limit, message}
use Rattle.cse_image_parts.specs.Placeholders.{message_kinds}
use Rattle.cse_logic_tree.specs.declared.tree.Variable.{Variable}
use Rattle.cse_logic_names.specs.Scope.{Scope, meant, own_result, kind_and_owner, is_free}
use Rattle.cse_logic_names.specs.WellTyped.{kinds_of}
use Rattle.cse_logic_faults.specs.Faults.{Fault, Counts, Sort, unless, is_number, sort_of, text_token}
use Rattle.cse_logic_faults.specs.FaultsOfExpressions.{kinds_faults, member_faults, text_faults}
use Rattle.cse_logic_faults.specs.FaultsOfStatements.{place_faults, assign_item_faults, assign_result_faults, assign_faults, by_faults, limit_faults, message_faults}

-- ---- expressions

-- of two values that are compared
abbrev pub compared_faults : Scope → rustexpression.Expression → rustexpression.Expression → List Fault
compared_faults s left right = kinds_faults (sort_of s (expr left)) (text_token (expr left)) (sort_of s (expr right)) (text_token (expr right))

-- of an item that is looked for in a set
abbrev pub looked_for_faults : Scope → Lexeme → Option Lexeme → List Fault
looked_for_faults s name set_name = member_faults s (written name) (option_map written set_name) (meant s (written name))

-- ---- what a value is put into, at the first token; a text as the value stands at the second

abbrev pub text_item_faults : Scope → ℕ → ℕ → ℕ → Sort → List Fault
text_item_faults s token n owner sort = place_faults s token n owner ++ unless (not (is_number sort)) 44 token

abbrev pub item_faults : Scope → ℕ × ℕ → ℕ → ℕ → Sort → List Fault
item_faults s tokens n item sort = assign_item_faults s tokens.0 n (kind_and_owner s.dictionary item) sort tokens.1

abbrev pub variable_faults : Scope → ℕ × ℕ → ℕ → Variable → Sort → List Fault
variable_faults s tokens n variable sort =
    (unless (n == 0) 44 tokens.0 ++ unless (is_free s.loops variable) 47 tokens.0) ++ text_faults sort tokens.1

abbrev pub result_faults : Scope → ℕ × ℕ → ℕ → ℕ → Sort → List Fault
result_faults s tokens n function sort = assign_result_faults s tokens.0 n (own_result s.routine function) ++ text_faults sort tokens.1

abbrev pub name_faults : Counts → Scope → Lexeme → ℕ → Sort → ℕ → List Fault
name_faults c s name n sort right = assign_faults c s name.token n (meant s (written name)) sort right

-- ---- statements

-- of the limits of a `do`, and what each turn adds
abbrev pub limits_faults : Scope → rustcounting.Counting → List Fault
limits_faults s x = limit_faults s (limit x.from) ++ (limit_faults s (limit x.to) ++ by_faults (option_map written x.by))

-- of a message of this text, with its values
abbrev pub filled_faults : Counts → Scope → ℕ → List ℕ → List rustexpression.Expression → List Fault
filled_faults c s token text values = message_faults c s token (Some (message_kinds text)) (exprs (map expr values))

abbrev pub said_faults : Counts → Scope → rustmessage.Message → List rustexpression.Expression → List Fault
said_faults c s said values = message_faults c s (message_token (message said)) (kinds_of s.messages (message said)) (exprs (map expr values))

abbrev pub assigned : Place → rustexpression.Expression → Stmt
assigned place value = Assign (written place.name) (exprs (map expr place.subscripts.items)) (expr value)

abbrev pub imputed : Place → rustexpression.Expression → Stmt
imputed place value = Impute (written place.name) (exprs (map expr place.subscripts.items)) (expr value)

abbrev pub called : Lexeme → List rustexpression.Expression → Stmt
called name arguments = Call (written name) (exprs (map expr arguments))
