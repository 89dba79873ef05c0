-- The faults of statements: a line for each node of a tree of syntax.
use Rattle.std.specs.Prelude.{ℕ, Bool, false, ◌&&◌, ◌||◌, not, ◌==◌, nat_le, if◌then◌else◌, List, [], ◌∷◌, ◌++◌, length, Option, Some, None}
use Rattle.cse_value.specs.declared.shape.ItemKind.{ItemKind}
use Rattle.cse_value.specs.declared.shape.ItemKind.TheVariants as kind
use Rattle.cse_image_parts.specs.declared.placeholders.ArgumentKind.{ArgumentKind}
use Rattle.cse_image_parts.specs.declared.placeholders.ArgumentKind.TheVariants as argument
use Rattle.cse_syntax_tree.specs.First.{expr_token, message_token}
use Rattle.cse_syntax_tree.specs.Tree.{Spelling, Exprs, no_expr, expr_and, Limit, Fixed, Counted, Counting, Stmt, Stmts, Arms}
use Rattle.cse_syntax_tree.specs.Tree.{Empty, Assign, Call, If, For, Do, Jump', Impute, PutDeck, ErrMsg, no_stmt, stmt_and, no_arm, else_of, arm}
use Rattle.cse_logic_tree.specs.declared.tree.Variable.{Variable}
use Rattle.cse_logic_tree.specs.declared.tree.Variable.TheVariants as v
use Rattle.cse_logic_names.specs.declared.meaning.Meaning.{Meaning}
use Rattle.cse_logic_names.specs.declared.meaning.Meaning.TheVariants as m
use Rattle.cse_logic_names.specs.Scope.{Scope, meant, own_result, loop_variable, has_case, kind_and_owner, found, is_free, within}
use Rattle.cse_logic_names.specs.Walk.{is_there}
use Rattle.cse_logic_names.specs.WellTyped.{kinds_of, value_of, may_jump}
use Rattle.cse_logic_faults.specs.Faults.{Fault, only, unless, Counts, Sort, is_text, is_number, sort_of, text_token}
use Rattle.cse_logic_faults.specs.FaultsOfExpressions.{cell_faults, call_faults, record_faults, deck_faults, text_faults, count_of, expr_faults, numbers_faults, number_faults}

-- ---- what a value is put into

-- a variable that no open loop is over
abbrev pub free_faults : Scope → ℕ → Option Variable → List Fault
free_faults s token None = only 40 token
free_faults s token (Some x) = unless (is_free s.loops x) 47 token

-- the case is there, and, where no subscript stands, the occurrence is known
abbrev pub stands : Scope → ℕ → ℕ → Bool
stands s n owner = has_case s.routine && (not (n == 0) || is_there (found s owner))

-- a place of an item of a record, with so many subscripts
abbrev pub place_faults : Scope → ℕ → ℕ → ℕ → List Fault
place_faults s token n owner = if owner == 255 then only 43 token else unless (stands s n owner) 49 token ++ unless (nat_le n 1) 44 token

-- an item, assigned a value of this sort, which stands at the last token where it is a text; a text item is itself the text at fault
abbrev pub assign_item_faults : Scope → ℕ → ℕ → Option (ItemKind × ℕ) → Sort → ℕ → List Fault
assign_item_faults s token n None sort right = only 40 token
assign_item_faults s token n (Some (kind.Opaque, owner)) sort right = only 41 token
assign_item_faults s token n (Some (kind.Number, owner)) sort right = place_faults s token n owner ++ text_faults sort right
assign_item_faults s token n (Some (kind.Text, owner)) sort right = place_faults s token n owner ++ unless (not (is_number sort)) 44 token

-- a function's own result stands without parentheses
abbrev pub assign_result_faults : Scope → ℕ → ℕ → Option Variable → List Fault
assign_result_faults s token n None = only 40 token
assign_result_faults s token n (Some x) = unless (n == 0) 40 token ++ unless (is_free s.loops x) 47 token

-- a name with so many subscripts, assigned a value of this sort
abbrev pub assign_faults : Counts → Scope → ℕ → ℕ → Option Meaning → Sort → ℕ → List Fault
assign_faults c s token n None sort right = only 40 token
assign_faults c s token n (Some (m.Variable x)) sort right = (unless (n == 0) 44 token ++ unless (is_free s.loops x) 47 token) ++ text_faults sort right
assign_faults c s token n (Some (m.Text g)) sort right = unless ((n == 0) && not (is_number sort)) 44 token
assign_faults c s token n (Some (m.Array a)) sort right = cell_faults c token n a ++ text_faults sort right
assign_faults c s token n (Some (m.Function k)) sort right = assign_result_faults s token n (own_result s.routine k) ++ text_faults sort right
assign_faults c s token n (Some (m.Record x)) sort right = only 40 token
assign_faults c s token n (Some (m.Item item)) sort right = assign_item_faults s token n (kind_and_owner s.dictionary item) sort right
assign_faults c s token n (Some (m.Set x)) sort right = only 40 token
assign_faults c s token n (Some m.Application) sort right = only 40 token
assign_faults c s token n (Some m.Level) sort right = only 40 token

-- an item that is imputed
abbrev pub impute_item_faults : Scope → ℕ → ℕ → Option (ItemKind × ℕ) → List Fault
impute_item_faults s token n None = only 40 token
impute_item_faults s token n (Some (kind.Opaque, owner)) = only 41 token
impute_item_faults s token n (Some (kind.Number, owner)) = place_faults s token n owner
impute_item_faults s token n (Some (kind.Text, owner)) = only 44 token ++ place_faults s token n owner

abbrev pub impute_faults : Scope → ℕ → ℕ → Option Meaning → List Fault
impute_faults s token n (Some (m.Item item)) = impute_item_faults s token n (kind_and_owner s.dictionary item)
impute_faults s token n _ = only 40 token

-- a call that stands alone
abbrev pub alone_faults : Counts → Scope → ℕ → ℕ → Option Meaning → List Fault
alone_faults c s token n (Some (m.Function k)) = call_faults c s token n k
alone_faults c s token n _ = only 40 token

-- ---- loops

-- a parameter that no function has
abbrev pub nothing_named : Variable
nothing_named = v.Parameter 18446744073709551615

-- the variable of a loop, also where its name means none
abbrev pub variable_or : Option Variable → Variable
variable_or None = nothing_named
variable_or (Some x) = x

abbrev pub record_in : Option Meaning → Option ℕ
record_in (Some (m.Record x)) = Some x
record_in _ = None

-- the scope of the body of a `for`, and of a `do`, also where the head is at fault
abbrev pub for_scope : Scope → Spelling → Spelling → Scope
for_scope s variable record_name = within s (record_in (meant s record_name)) (variable_or (loop_variable s variable))

abbrev pub do_scope : Scope → Spelling → Scope
do_scope s variable = within s None (variable_or (loop_variable s variable))

abbrev pub digits_faults : Spelling → List Fault
digits_faults digits = unless (is_there (value_of digits)) 44 digits.token

abbrev pub limit_faults : Scope → Limit → List Fault
limit_faults s (Fixed x) = digits_faults x.digits
limit_faults s (Counted count name) = record_faults s name.token (meant s name)

abbrev pub by_faults : Option Spelling → List Fault
by_faults None = []
by_faults (Some digits) = digits_faults digits

abbrev pub variable_faults : Scope → Spelling → List Fault
variable_faults s name = free_faults s name.token (loop_variable s name)

-- the head of a `do`
abbrev pub counting_faults : Scope → Counting → List Fault
counting_faults s x = variable_faults s x.variable ++ (limit_faults s x.start ++ (limit_faults s x.stop ++ by_faults x.by))

-- the head of a `for`
abbrev pub for_faults : Scope → Spelling → Spelling → List Fault
for_faults s variable record_name = variable_faults s variable ++ record_faults s record_name.token (meant s record_name)

-- ---- messages

-- values of no known kind
abbrev pub values_faults : Counts → Scope → Exprs → List Fault
values_faults c s no_expr = []
values_faults c s (expr_and x xs) = expr_faults c s false x ++ values_faults c s xs

abbrev pub is_of : ArgumentKind → Sort → Bool
is_of argument.Number sort = not (is_text sort)
is_of argument.Text sort = not (is_number sort)

-- a value of each kind; one of another kind is a fault at its first token
abbrev pub arguments_faults : Counts → Scope → List ArgumentKind → Exprs → List Fault
arguments_faults c s kinds no_expr = []
arguments_faults c s [] (expr_and x xs) = values_faults c s (expr_and x xs)
arguments_faults c s (k ∷ ks) (expr_and x xs) = (expr_faults c s false x ++ unless (is_of k (sort_of s x)) 44 (expr_token x)) ++ arguments_faults c s ks xs

-- a message of such kinds, as many as values stand there
abbrev pub message_faults : Counts → Scope → ℕ → Option (List ArgumentKind) → Exprs → List Fault
message_faults c s token None values = only 40 token ++ values_faults c s values
message_faults c s token (Some kinds) values =
    if length kinds == count_of values then arguments_faults c s kinds values else only 48 token ++ values_faults c s values

-- ---- statements

unfoldable mutual
  pub stmt_faults : Counts → Scope → Stmt → List Fault
  stmt_faults c s Empty = []
  stmt_faults c s (Assign name subscripts value) =
      numbers_faults c s subscripts
      ++ (expr_faults c s false value ++ assign_faults c s name.token (count_of subscripts) (meant s name) (sort_of s value) (text_token value))
  stmt_faults c s (Call name arguments) = numbers_faults c s arguments ++ alone_faults c s name.token (count_of arguments) (meant s name)
  stmt_faults c s (If condition body others) = number_faults c s false condition ++ (stmts_faults c s body ++ arms_faults c s others)
  stmt_faults c s (For variable record_name body) = for_faults s variable record_name ++ stmts_faults c (for_scope s variable record_name) body
  stmt_faults c s (Do counting body) = counting_faults s counting ++ stmts_faults c (do_scope s counting.variable) body
  stmt_faults c s (Jump' token jump) = unless (may_jump s.loops jump) 49 token
  stmt_faults c s (Impute name subscripts value) =
      numbers_faults c s subscripts ++ (number_faults c s false value ++ impute_faults s name.token (count_of subscripts) (meant s name))
  stmt_faults c s (PutDeck deck value) = number_faults c s false value ++ deck_faults s deck.token (meant s deck)
  stmt_faults c s (ErrMsg message values summary) = message_faults c s (message_token message) (kinds_of s.messages message) values

  pub stmts_faults : Counts → Scope → Stmts → List Fault
  stmts_faults c s no_stmt = []
  stmts_faults c s (stmt_and x xs) = stmt_faults c s x ++ stmts_faults c s xs

  pub arms_faults : Counts → Scope → Arms → List Fault
  arms_faults c s no_arm = []
  arms_faults c s (else_of body) = stmts_faults c s body
  arms_faults c s (arm condition body others) = number_faults c s false condition ++ (stmts_faults c s body ++ arms_faults c s others)
