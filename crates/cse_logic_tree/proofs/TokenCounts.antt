-- The words that a tree spells are as many as its structure tells.
use Rattle.std.proofs.Common.{◌≡◌, ℕ, ◌+◌, Bool, true, false, List, [], ◌∷◌, length, Option, Some, None, refl, arith}
use Rattle.cse_syntax_tree.specs.Word.{Word, Name, Digits, Sign, Spelling}
use Rattle.cse_syntax_tree.specs.declared.token.Mark.{Mark}
use Rattle.cse_syntax_tree.specs.declared.token.Mark.TheVariants as m
use Rattle.cse_syntax_tree.specs.Tree.{Expr, Exprs, Operations, Number, Text, Special', Bare, Indexed, Group, Apply, Query', InValueSet, Minus, Not, Compare, Chain, no_expr, expr_and, no_operation, operation_and}
use Rattle.cse_syntax_tree.specs.Tree.{Literal, Limit, Fixed, Counted, Counting, Message, Own, Numbered, Stmt, Empty, Assign, Call, If, For, Do, Jump', Impute, PutDeck, ErrMsg, Stmts, no_stmt, stmt_and, Arms, no_arm, else_of, arm}
use Rattle.cse_syntax_tree.specs.Tree.{Dimension, Sized, Rows, Parameter, Array, Declaration, Numeric, Alpha, Array', Function', Body, Plain, Preproc, Both, Postproc, Procedure, Tree}
use Rattle.cse_syntax_tree.specs.Grammar.{Spells, relation_sign, spell_each, spell_list, spell_all, spell_mark, spell_name, spell_set, spell_expr, spell_exprs, spell_others, spell_operations, spell_subscripts, spell_literal, spell_limit, spell_by, spell_counting, spell_message, spell_stmt, spell_stmts, spell_arms, spell_dimension, spell_parameter, spell_cells, spell_array, spell_declaration, spell_body, spell_procedure, spell_globals, spell_tree}
use Rattle.cse_logic_tree.specs.Tokens.{mark_tokens, each_tokens, list_tokens, all_tokens, one_token, two_tokens, expr_tokens, exprs_tokens, others_tokens, operations_tokens, subscripts_tokens, literal_tokens, limit_tokens, counting_tokens, stmt_tokens, stmts_tokens, arms_tokens, dimension_tokens, parameter_tokens, cells_tokens, array_tokens, declaration_tokens, body_tokens, procedure_tokens, globals_tokens, tree_tokens}

mark_counts : (m : Mark) (b : Bool) (rest : List Word) → length (spell_mark m b rest) ≡ mark_tokens b + length rest
mark_counts m true rest = omega arith
mark_counts m false rest = omega arith

-- Each spelling has as many words as these tokens.
abbrev Counts : {A : Type 0} → Spells A → (A → ℕ) → Type 0
Counts {A} spell tokens = (x : A) (rest : List Word) → length (spell x rest) ≡ tokens x + length rest

each_counts : {A : Type 0} (spell : Spells A) (tokens : A → ℕ) → Counts spell tokens → (xs : List A) (rest : List Word) → length (spell_each spell xs rest) ≡ each_tokens tokens xs + length rest
each_counts spell tokens h [] rest = omega arith
each_counts spell tokens h (x ∷ xs) rest = omega (arith, h x (spell_each spell xs rest), each_counts spell tokens h xs rest)

list_counts : {A : Type 0} (spell : Spells A) (tokens : A → ℕ) → Counts spell tokens → (xs : List A) (rest : List Word) → length (spell_list spell xs rest) ≡ list_tokens tokens xs + length rest
list_counts spell tokens h [] rest = omega arith
list_counts spell tokens h (x ∷ xs) rest = omega (arith, h x (spell_each spell xs rest), each_counts spell tokens h xs rest)

all_counts : {A : Type 0} (spell : Spells A) (tokens : A → ℕ) → Counts spell tokens → (xs : List A) (rest : List Word) → length (spell_all spell xs rest) ≡ all_tokens tokens xs + length rest
all_counts spell tokens h [] rest = omega arith
all_counts spell tokens h (x ∷ xs) rest = omega (arith, h x (spell_all spell xs rest), all_counts spell tokens h xs rest)

set_counts : (set : Option Spelling) (rest : List Word) → length (spell_set set rest) ≡ two_tokens set + length rest
set_counts None rest = omega arith
set_counts (Some set) rest = omega arith

-- ---- expressions

mutual
  expr_counts : (x : Expr) (rest : List Word) → length (spell_expr x rest) ≡ expr_tokens x + length rest
  expr_counts (Number digits) rest = omega arith
  expr_counts (Text text) rest = omega arith
  expr_counts (Special' token value) rest = omega arith
  expr_counts (Bare name) rest = omega arith
  expr_counts (Indexed name arguments) rest = omega (arith, exprs_counts arguments (Sign m.Close ∷ rest))
  expr_counts (Group x) rest = omega (arith, expr_counts x (Sign m.Close ∷ rest))
  expr_counts (Apply function x) rest = omega (arith, expr_counts x (Sign m.Close ∷ rest))
  expr_counts (Query' query name) rest = omega arith
  expr_counts (InValueSet item set) rest = omega (arith, set_counts set (Sign m.Close ∷ rest))
  expr_counts (Minus x) rest = omega (arith, expr_counts x rest)
  expr_counts (Not x) rest = omega (arith, expr_counts x rest)
  expr_counts (Compare relation x y) rest = omega (arith, expr_counts x (Sign (relation_sign relation) ∷ spell_expr y rest), expr_counts y rest)
  expr_counts (Chain x others) rest = omega (arith, expr_counts x (spell_operations others rest), operations_count others rest)

  exprs_counts : (xs : Exprs) (rest : List Word) → length (spell_exprs xs rest) ≡ exprs_tokens xs + length rest
  exprs_counts no_expr rest = omega arith
  exprs_counts (expr_and x xs) rest = omega (arith, expr_counts x (spell_others xs rest), others_count xs rest)

  others_count : (xs : Exprs) (rest : List Word) → length (spell_others xs rest) ≡ others_tokens xs + length rest
  others_count no_expr rest = omega arith
  others_count (expr_and x xs) rest = omega (arith, expr_counts x (spell_others xs rest), others_count xs rest)

  operations_count : (xs : Operations) (rest : List Word) → length (spell_operations xs rest) ≡ operations_tokens xs + length rest
  operations_count no_operation rest = omega arith
  operations_count (operation_and operator x xs) rest = omega (arith, expr_counts x (spell_operations xs rest), operations_count xs rest)

-- ---- statements

subscripts_count : (xs : Exprs) (rest : List Word) → length (spell_subscripts xs rest) ≡ subscripts_tokens xs + length rest
subscripts_count no_expr rest = omega arith
subscripts_count (expr_and x xs) rest = omega (arith, exprs_counts (expr_and x xs) (Sign m.Close ∷ rest))

literal_counts : Counts spell_literal literal_tokens
literal_counts x rest = omega (arith, mark_counts m.Minus x.minus (Digits x.digits ∷ rest))

limit_counts : Counts spell_limit limit_tokens
limit_counts (Fixed x) rest = literal_counts x rest
limit_counts (Counted count name) rest = omega arith

by_counts : (by : Option Spelling) (rest : List Word) → length (spell_by by rest) ≡ two_tokens by + length rest
by_counts None rest = omega arith
by_counts (Some digits) rest = omega arith

counting_counts : Counts spell_counting counting_tokens
counting_counts x rest =
    let behind = spell_limit x.stop (spell_by x.by rest) in
    omega (arith, limit_counts x.start (Sign m.Until ∷ Name x.again ∷ Sign m.More ∷ behind), limit_counts x.stop (spell_by x.by rest), by_counts x.by rest)

message_counts : (x : Message) (rest : List Word) → length (spell_message x rest) ≡ 1 + length rest
message_counts (Own text) rest = omega arith
message_counts (Numbered digits) rest = omega arith

mutual
  stmt_counts : (x : Stmt) (rest : List Word) → length (spell_stmt x rest) ≡ stmt_tokens x + length rest
  stmt_counts Empty rest = omega arith
  stmt_counts (Assign name subscripts value) rest =
      omega (arith, subscripts_count subscripts (Sign m.Equals ∷ spell_expr value (Sign m.Semicolon ∷ rest)), expr_counts value (Sign m.Semicolon ∷ rest))
  stmt_counts (Call name arguments) rest = omega (arith, exprs_counts arguments (Sign m.Close ∷ Sign m.Semicolon ∷ rest))
  stmt_counts (If condition body others) rest =
      let behind = spell_arms others (Sign m.EndIf ∷ Sign m.Semicolon ∷ rest) in
      omega (arith, expr_counts condition (Sign m.Then ∷ spell_stmts body behind), stmts_count body behind, arms_count others (Sign m.EndIf ∷ Sign m.Semicolon ∷ rest))
  stmt_counts (For variable record_name body) rest = omega (arith, stmts_count body (Sign m.EndDo ∷ Sign m.Semicolon ∷ rest))
  stmt_counts (Do counting body) rest =
      omega (arith, counting_counts counting (spell_stmts body (Sign m.EndDo ∷ Sign m.Semicolon ∷ rest)), stmts_count body (Sign m.EndDo ∷ Sign m.Semicolon ∷ rest))
  stmt_counts (Jump' token jump) rest = omega arith
  stmt_counts (Impute name subscripts value) rest =
      omega (arith, subscripts_count subscripts (Sign m.Comma ∷ spell_expr value (Sign m.Close ∷ Sign m.Semicolon ∷ rest)), expr_counts value (Sign m.Close ∷ Sign m.Semicolon ∷ rest))
  stmt_counts (PutDeck deck value) rest = omega (arith, expr_counts value (Sign m.Close ∷ Sign m.Semicolon ∷ rest))
  stmt_counts (ErrMsg message values summary) rest =
      let behind = spell_mark m.Summary summary (Sign m.Semicolon ∷ rest) in
      omega (arith, message_counts message (spell_others values (Sign m.Close ∷ behind)), others_count values (Sign m.Close ∷ behind), mark_counts m.Summary summary (Sign m.Semicolon ∷ rest))

  stmts_count : (xs : Stmts) (rest : List Word) → length (spell_stmts xs rest) ≡ stmts_tokens xs + length rest
  stmts_count no_stmt rest = omega arith
  stmts_count (stmt_and x xs) rest = omega (arith, stmt_counts x (spell_stmts xs rest), stmts_count xs rest)

  arms_count : (xs : Arms) (rest : List Word) → length (spell_arms xs rest) ≡ arms_tokens xs + length rest
  arms_count no_arm rest = omega arith
  arms_count (else_of body) rest = omega (arith, stmts_count body rest)
  arms_count (arm condition body others) rest =
      omega (arith, expr_counts condition (Sign m.Then ∷ spell_stmts body (spell_arms others rest)), stmts_count body (spell_arms others rest), arms_count others rest)

-- ---- sources

name_counts : Counts spell_name one_token
name_counts x rest = omega arith

dimension_counts : Counts spell_dimension dimension_tokens
dimension_counts (Sized digits) rest = omega arith
dimension_counts (Rows set true) rest = omega arith
dimension_counts (Rows set false) rest = omega arith

parameter_counts : Counts spell_parameter parameter_tokens
parameter_counts x rest = omega (arith, mark_counts m.Numeric x.declared (Name x.name ∷ rest))

cells_count : (xs : List Literal) (rest : List Word) → length (spell_cells xs rest) ≡ cells_tokens xs + length rest
cells_count [] rest = omega arith
cells_count (x ∷ xs) rest = omega (arith, list_counts spell_literal literal_tokens literal_counts (x ∷ xs) rest)

array_counts : Counts spell_array array_tokens
array_counts x rest =
    let behind = spell_mark m.Save x.saved (spell_cells x.cells rest) in
    omega (arith, list_counts spell_dimension dimension_tokens dimension_counts x.dimensions (Sign m.Close ∷ behind), mark_counts m.Save x.saved (spell_cells x.cells rest), cells_count x.cells rest)

declaration_counts : Counts spell_declaration declaration_tokens
declaration_counts (Numeric names) rest = omega (arith, list_counts spell_name one_token name_counts names (Sign m.Semicolon ∷ rest))
declaration_counts (Alpha size names) rest = omega (arith, list_counts spell_name one_token name_counts names (Sign m.Semicolon ∷ rest))
declaration_counts (Array' array) rest = omega (arith, array_counts array (Sign m.Semicolon ∷ rest))
declaration_counts (Function' name parameters body) rest =
    let behind = spell_stmts body (Sign m.End ∷ Sign m.Semicolon ∷ rest) in
    omega (arith, list_counts spell_parameter parameter_tokens parameter_counts parameters (Sign m.Close ∷ behind), stmts_count body (Sign m.End ∷ Sign m.Semicolon ∷ rest))

body_counts : Counts spell_body body_tokens
body_counts (Plain xs) rest = stmts_count xs rest
body_counts (Preproc xs) rest = omega (arith, stmts_count xs rest)
body_counts (Both xs ys) rest = omega (arith, stmts_count xs (Sign m.Postproc ∷ spell_stmts ys rest), stmts_count ys rest)
body_counts (Postproc xs) rest = omega (arith, stmts_count xs rest)

procedure_counts : Counts spell_procedure procedure_tokens
procedure_counts x rest = omega (arith, body_counts x.body rest)

globals_count : Counts spell_globals globals_tokens
globals_count None rest = omega arith
globals_count (Some declarations) rest = omega (arith, all_counts spell_declaration declaration_tokens declaration_counts declarations rest)

pub tree_counts : (x : Tree) → length (spell_tree x) ≡ tree_tokens x
tree_counts x = omega (arith, globals_count x.globals (spell_all spell_procedure x.procedures []), all_counts spell_procedure procedure_tokens procedure_counts x.procedures [])
