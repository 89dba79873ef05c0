-- How many tokens a tree is written in, by its structure.
use Rattle.std.specs.Prelude.{◌≡◌, ℕ, ◌+◌, Bool, true, false, List, [], ◌∷◌, length, Option, Some, None}
use Rattle.cse_syntax_tree.specs.Word.{Spelling}
use Rattle.cse_syntax_tree.specs.Tree.{Expr, Exprs, Operations, Number, Text, Special', Bare, Indexed, Group, Apply, Query', InValueSet, Minus, Not, Compare, Chain, no_expr, expr_and, no_operation, operation_and}
use Rattle.cse_syntax_tree.specs.Tree.{Literal, Limit, Fixed, Counted, Counting, Message, Stmt, Empty, Assign, Call, If, For, Do, Jump', Impute, PutDeck, ErrMsg, Stmts, no_stmt, stmt_and, Arms, no_arm, else_of, arm}
use Rattle.cse_syntax_tree.specs.Tree.{Dimension, Sized, Rows, Parameter, Array, Declaration, Numeric, Alpha, Array', Function', Body, Plain, Preproc, Both, Postproc, Procedure, Tree}
use Rattle.cse_syntax_tree.specs.Grammar.{spell_tree}

-- ---- lists

-- a mark that stands there or doesn't
abbrev pub mark_tokens : Bool → ℕ
mark_tokens true = 1
mark_tokens false = 0

-- each with a comma before it
abbrev pub each_tokens : {A : Type 0} → (A → ℕ) → List A → ℕ
each_tokens tokens [] = 0
each_tokens tokens (x ∷ xs) = 1 + tokens x + each_tokens tokens xs

-- with commas between them
abbrev pub list_tokens : {A : Type 0} → (A → ℕ) → List A → ℕ
list_tokens tokens [] = 0
list_tokens tokens (x ∷ xs) = tokens x + each_tokens tokens xs

-- one after the other
abbrev pub all_tokens : {A : Type 0} → (A → ℕ) → List A → ℕ
all_tokens tokens [] = 0
all_tokens tokens (x ∷ xs) = tokens x + all_tokens tokens xs

-- a name or a number is one token
abbrev pub one_token : Spelling → ℕ
one_token x = 1

-- a word or a comma, and a name or a number behind it, if they stand there
abbrev pub two_tokens : Option Spelling → ℕ
two_tokens None = 0
two_tokens (Some x) = 2

-- ---- expressions

abbrev mutual
  pub expr_tokens : Expr → ℕ
  expr_tokens (Number digits) = 1
  expr_tokens (Text text) = 1
  expr_tokens (Special' token value) = 1
  expr_tokens (Bare name) = 1
  expr_tokens (Indexed name arguments) = 3 + exprs_tokens arguments
  expr_tokens (Group x) = 2 + expr_tokens x
  expr_tokens (Apply function x) = 3 + expr_tokens x
  expr_tokens (Query' query name) = 4
  expr_tokens (InValueSet item set) = 4 + two_tokens set
  expr_tokens (Minus x) = 1 + expr_tokens x
  expr_tokens (Not x) = 1 + expr_tokens x
  expr_tokens (Compare relation x y) = 1 + expr_tokens x + expr_tokens y
  expr_tokens (Chain x others) = expr_tokens x + operations_tokens others

  pub exprs_tokens : Exprs → ℕ
  exprs_tokens no_expr = 0
  exprs_tokens (expr_and x xs) = expr_tokens x + others_tokens xs

  -- each with a comma before it
  pub others_tokens : Exprs → ℕ
  others_tokens no_expr = 0
  others_tokens (expr_and x xs) = 1 + expr_tokens x + others_tokens xs

  pub operations_tokens : Operations → ℕ
  operations_tokens no_operation = 0
  operations_tokens (operation_and operator x xs) = 1 + expr_tokens x + operations_tokens xs

-- ---- statements

-- in parentheses, if there are some
abbrev pub subscripts_tokens : Exprs → ℕ
subscripts_tokens no_expr = 0
subscripts_tokens (expr_and x xs) = 2 + exprs_tokens (expr_and x xs)

abbrev pub literal_tokens : Literal → ℕ
literal_tokens x = mark_tokens x.minus + 1

abbrev pub limit_tokens : Limit → ℕ
limit_tokens (Fixed x) = literal_tokens x
limit_tokens (Counted count name) = 4

-- `varying`, the variable twice, `=`, `until` and `>`
abbrev pub counting_tokens : Counting → ℕ
counting_tokens x = 6 + limit_tokens x.start + limit_tokens x.stop + two_tokens x.by

abbrev mutual
  pub stmt_tokens : Stmt → ℕ
  stmt_tokens Empty = 1
  stmt_tokens (Assign name subscripts value) = 3 + subscripts_tokens subscripts + expr_tokens value
  stmt_tokens (Call name arguments) = 4 + exprs_tokens arguments
  stmt_tokens (If condition body others) = 4 + expr_tokens condition + stmts_tokens body + arms_tokens others
  stmt_tokens (For variable record_name body) = 7 + stmts_tokens body
  stmt_tokens (Do counting body) = 3 + counting_tokens counting + stmts_tokens body
  stmt_tokens (Jump' token jump) = 2
  stmt_tokens (Impute name subscripts value) = 6 + subscripts_tokens subscripts + expr_tokens value
  stmt_tokens (PutDeck deck value) = 6 + expr_tokens value
  stmt_tokens (ErrMsg message values summary) = 5 + others_tokens values + mark_tokens summary

  pub stmts_tokens : Stmts → ℕ
  stmts_tokens no_stmt = 0
  stmts_tokens (stmt_and x xs) = stmt_tokens x + stmts_tokens xs

  pub arms_tokens : Arms → ℕ
  arms_tokens no_arm = 0
  arms_tokens (else_of body) = 1 + stmts_tokens body
  arms_tokens (arm condition body others) = 2 + expr_tokens condition + stmts_tokens body + arms_tokens others

-- ---- sources

abbrev pub dimension_tokens : Dimension → ℕ
dimension_tokens (Sized digits) = 1
dimension_tokens (Rows set true) = 4
dimension_tokens (Rows set false) = 1

abbrev pub parameter_tokens : Parameter → ℕ
parameter_tokens x = mark_tokens x.declared + 1

abbrev pub cells_tokens : List Literal → ℕ
cells_tokens [] = 0
cells_tokens (x ∷ xs) = 1 + list_tokens literal_tokens (x ∷ xs)

abbrev pub array_tokens : Array → ℕ
array_tokens x = 3 + list_tokens dimension_tokens x.dimensions + mark_tokens x.saved + cells_tokens x.cells

abbrev pub declaration_tokens : Declaration → ℕ
declaration_tokens (Numeric names) = 2 + list_tokens one_token names
declaration_tokens (Alpha size names) = 5 + list_tokens one_token names
declaration_tokens (Array' array) = 2 + array_tokens array
declaration_tokens (Function' name parameters body) = 6 + list_tokens parameter_tokens parameters + stmts_tokens body

abbrev pub body_tokens : Body → ℕ
body_tokens (Plain xs) = stmts_tokens xs
body_tokens (Preproc xs) = 1 + stmts_tokens xs
body_tokens (Both xs ys) = 2 + stmts_tokens xs + stmts_tokens ys
body_tokens (Postproc xs) = 1 + stmts_tokens xs

abbrev pub procedure_tokens : Procedure → ℕ
procedure_tokens x = 2 + body_tokens x.body

abbrev pub globals_tokens : Option (List Declaration) → ℕ
globals_tokens None = 0
globals_tokens (Some declarations) = 2 + all_tokens declaration_tokens declarations

abbrev pub tree_tokens : Tree → ℕ
tree_tokens x = globals_tokens x.globals + all_tokens procedure_tokens x.procedures

-- The law: a tree is written in so many tokens.
abbrev pub CountsTokens : Type 0
CountsTokens = (x : Tree) → length (spell_tree x) ≡ tree_tokens x
