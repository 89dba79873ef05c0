-- What a whole tree of syntax is as a typed one, and where it is none: the tool that the checker follows.
use Rattle.std.specs.Prelude.{ℕ, ◌+◌, Bool, true, ◌&&◌, List, [], ◌∷◌, ◌++◌, length, map, slice_get, Option, Some, None}
use Rattle.std.specs.Option.{option_map}
use Rattle.cse_dict.specs.Dictionary.{DictionaryText}
use Rattle.cse_syntax_tree.specs.Tree as syntax
use Rattle.cse_syntax_tree.specs.Tree.{Spelling}
use Rattle.cse_logic_tree.specs.declared.tree.Owner.{Owner}
use Rattle.cse_logic_tree.specs.declared.tree.Owner.TheVariants as o
use Rattle.cse_logic_tree.specs.Typed.{Whole, Statements, Dimension, Sized, Rows, Array, Function, Declaration, Numeric, Alpha, Array', Function', Body, Plain, Preproc, Both, Postproc, Procedure, Tree}
use Rattle.cse_logic_names.specs.declared.meaning.Routine.TheVariants as r
use Rattle.cse_logic_names.specs.MessageFile.{MessageText}
use Rattle.cse_logic_names.specs.Scope.{Scope, meant, in_dictionary}
use Rattle.cse_logic_names.specs.Uses.{facts_of, needs_case, uses_block}
use Rattle.cse_logic_names.specs.WellTyped.{size_of, one_if, rows_of, parameter_names, function_scope, owner_meant, body_messages, procedure_scope, all_declarations, declared_in, declared_messages, tree_messages, entry_of, messages_of}
use Rattle.cse_types.specs.Names.{are_new, is_free, is_new, names_of, owner_names}
use Rattle.cse_logic_expressions.specs.Judge.{number_set}
use Rattle.cse_logic_expressions.specs.JudgeStatement.{whole_judged, judge_block}
use Rattle.cse_logic_names.specs.Walk.{joined, only_if, walk}

-- ---- arrays

abbrev pub set_rows : Scope → ℕ → Bool → Option ℕ
set_rows s set one_more = option_map (λ rows. rows + one_if one_more) (rows_of (slice_get s.dictionary.sets set))

abbrev pub set_dimension : Scope → Spelling → Bool → Option ℕ → Option Dimension
set_dimension s name one_more None = None
set_dimension s name one_more (Some set) = option_map (Rows name set one_more) (set_rows s set one_more)

abbrev pub dimension_judged : Scope → syntax.Dimension → Option Dimension
dimension_judged s (syntax.Sized digits) = option_map (Sized digits) (size_of 65535 digits)
dimension_judged s (syntax.Rows name one_more) = set_dimension s name one_more (number_set s (meant s name))

abbrev pub dimensions_judged : Scope → List syntax.Dimension → Option (List Dimension)
dimensions_judged s ds = walk (λ d rest. dimension_judged s d) ds

abbrev pub cells_judged : List syntax.Literal → Option (List Whole)
cells_judged cells = walk (λ c rest. whole_judged c) cells

abbrev pub array_of : syntax.Array → List Dimension → List Whole → Array
array_of x dimensions cells = record { name = x.name; dimensions = dimensions; saved = x.saved; cells = cells }

abbrev pub array_judged : Scope → syntax.Array → Option Array
array_judged s x = joined (array_of x) (dimensions_judged s x.dimensions) (cells_judged x.cells)

-- the dimensions of each array, where they are sound
abbrev pub arrays_judged : Scope → List syntax.Declaration → List (Option (List Dimension))
arrays_judged s [] = []
arrays_judged s (syntax.Numeric names ∷ ds) = arrays_judged s ds
arrays_judged s (syntax.Alpha size names ∷ ds) = arrays_judged s ds
arrays_judged s (syntax.Array' x ∷ ds) = dimensions_judged s x.dimensions ∷ arrays_judged s ds
arrays_judged s (syntax.Function' name parameters body ∷ ds) = arrays_judged s ds

-- ---- functions

abbrev pub function_of : Scope → Spelling → List syntax.Parameter → Statements → Function
function_of s name parameters body = record { name = name; parameters = parameters; body = body; needs_case = needs_case s.functions (uses_block body) }

-- so many messages stand before it in the source
abbrev pub function_judged : Scope → ℕ → Spelling → List syntax.Parameter → syntax.Stmts → Option Function
function_judged s n name parameters body =
    only_if (are_new (is_new s.dictionary s.declared) [] (parameter_names parameters))
    (option_map (function_of s name parameters) (judge_block (function_scope s (length s.functions) parameters) n body))

-- the scope behind a function
abbrev pub behind_function : Scope → Option Function → Scope
behind_function s f = record s { functions = s.functions ++ option_map (facts_of s.functions) f ∷ [] }

-- ---- declarations

abbrev pub alpha_of : Spelling → List Spelling → ℕ → Declaration
alpha_of digits names size = Alpha digits size names

-- a declaration; so many messages stand before it in the source
abbrev pub declaration_judged : Scope → ℕ → syntax.Declaration → Option Declaration
declaration_judged s n (syntax.Numeric names) = Some (Numeric names)
declaration_judged s n (syntax.Alpha digits names) = option_map (alpha_of digits names) (size_of 255 digits)
declaration_judged s n (syntax.Array' x) = option_map Array' (array_judged s x)
declaration_judged s n (syntax.Function' name parameters body) = option_map Function' (function_judged s n name parameters body)

-- the scope behind a declaration
abbrev pub behind : Scope → ℕ → syntax.Declaration → Scope
behind s n (syntax.Numeric names) = s
behind s n (syntax.Alpha digits names) = s
behind s n (syntax.Array' x) = s
behind s n (syntax.Function' name parameters body) = behind_function s (function_judged s n name parameters body)

-- the messages of a declaration
abbrev pub messages_with : syntax.Declaration → List (syntax.Message × Bool)
messages_with (syntax.Numeric names) = []
messages_with (syntax.Alpha digits names) = []
messages_with (syntax.Array' x) = []
messages_with (syntax.Function' name parameters body) = messages_of body

-- how many messages stand behind a declaration, where so many stand before it
abbrev pub messages_past : ℕ → syntax.Declaration → ℕ
messages_past n (syntax.Numeric names) = n
messages_past n (syntax.Alpha digits names) = n
messages_past n (syntax.Array' x) = n
messages_past n (syntax.Function' name parameters body) = n + length (messages_of body)

abbrev pub declarations_judged : Scope → ℕ → List syntax.Declaration → Option (List Declaration)
declarations_judged s n [] = Some []
declarations_judged s n (d ∷ ds) = joined (λ y ys. y ∷ ys) (declaration_judged s n d) (declarations_judged (behind s n d) (messages_past n d) ds)

-- the scope behind all declarations
abbrev pub behind_all : Scope → ℕ → List syntax.Declaration → Scope
behind_all s n [] = s
behind_all s n (d ∷ ds) = behind_all (behind s n d) (messages_past n d) ds

-- ---- procedures

abbrev pub body_judged : Scope → ℕ → syntax.Body → Option Body
body_judged s n (syntax.Plain xs) = option_map Plain (judge_block s n xs)
body_judged s n (syntax.Preproc xs) = option_map Preproc (judge_block s n xs)
body_judged s n (syntax.Both xs ys) = joined Both (judge_block s n xs) (judge_block s (n + length (messages_of xs)) ys)
body_judged s n (syntax.Postproc xs) = option_map Postproc (judge_block s n xs)

abbrev pub procedure_of : Spelling → Owner → Body → Procedure
procedure_of name owner body = record { name = name; owner = owner; body = body }

abbrev pub owned : Scope → ℕ → syntax.Procedure → Option Owner → Option Procedure
owned s n x None = None
owned s n x (Some owner) = option_map (procedure_of x.name owner) (body_judged (procedure_scope s owner) n x.body)

abbrev pub procedure_judged : Scope → ℕ → syntax.Procedure → Option Procedure
procedure_judged s n x = owned s n x (owner_meant s.dictionary (in_dictionary s.dictionary x.name.text))

abbrev pub procedures_judged : Scope → ℕ → List syntax.Procedure → Option (List Procedure)
procedures_judged s n [] = Some []
procedures_judged s n (x ∷ xs) = joined (λ y ys. y ∷ ys) (procedure_judged s n x) (procedures_judged s (n + length (body_messages x.body)) xs)

-- ---- sources

-- what is known before the arrays are judged
abbrev pub names_scope : DictionaryText → List MessageText → syntax.Tree → Scope
names_scope d messages x = record {
  dictionary = d;
  messages = messages;
  declared = declared_in x;
  arrays = [];
  functions = [];
  parameters = [];
  routine = r.Procedure o.Application;
  loops = [];
}

-- what is known before the first function ends
abbrev pub start_scope : DictionaryText → List MessageText → syntax.Tree → Scope
start_scope d messages x = record (names_scope d messages x) { arrays = arrays_judged (names_scope d messages x) (all_declarations x.globals) }

abbrev pub globals_judged : Scope → Option (List syntax.Declaration) → Option (Option (List Declaration))
globals_judged s None = Some None
globals_judged s (Some ds) = option_map (λ ys. Some ys) (declarations_judged s 0 ds)

abbrev pub tree_of : List MessageText → syntax.Tree → Option (List Declaration) → List Procedure → Tree
tree_of messages x globals procedures = record { globals = globals; procedures = procedures; messages = map (entry_of messages) (tree_messages x) }

-- The typed tree of a tree of syntax, for a dictionary and the messages of a message file; none where a rule is broken.
unfoldable pub typed_of : DictionaryText → List MessageText → syntax.Tree → Option Tree
typed_of d messages x =
    let s = start_scope d messages x in
    let ds = all_declarations x.globals in
    only_if (are_new (is_free d) [] (names_of (declared_in x)) && are_new (λ name. true) [] (owner_names x.procedures))
    (joined (tree_of messages x) (globals_judged s x.globals) (procedures_judged (behind_all s 0 ds) (length (declared_messages ds)) x.procedures))
