-- The children that a tree holds in a `Vec`: the view of a node that is made of them. Walks over trees in the crates above
-- cite these lemmas.
use Rattle.std.proofs.Common.{◌≡◌, List, map, Option, Some, None, refl, ap, sym, ◌∙◌}
use Rattle.std.specs.Global.{Vec}
use Rattle.cse_syntax_tree.specs.declared.tree.Lexeme.{Lexeme}
use Rattle.cse_syntax_tree.specs.declared.tree.Operation as rustop
use Rattle.cse_syntax_tree.specs.declared.tree.Expression as rustexpression
use Rattle.cse_syntax_tree.specs.declared.tree.ExpressionKind as rust
use Rattle.cse_syntax_tree.specs.declared.tree.ExpressionKind.TheVariants as e
use Rattle.cse_syntax_tree.specs.declared.tree.Counting.{Counting}
use Rattle.cse_syntax_tree.specs.declared.tree.Statement as ruststatement
use Rattle.cse_syntax_tree.specs.declared.tree.StatementKind as rusts
use Rattle.cse_syntax_tree.specs.declared.tree.StatementKind.TheVariants as s
use Rattle.cse_syntax_tree.specs.declared.tree.Arm as rustarm
use Rattle.cse_syntax_tree.specs.Tree.{If, For, Do, Stmts, Arms, stmt_and, arm, arms, else_of, counting, stmt, stmt_kind, stmt_row, arm_row, otherwise_of, block, arm_tree, otherwise_tree}
use Rattle.cse_syntax_tree.specs.Tree.{written, expr, expr_kind, exprs, expr_row, operations, operation_row, operation_tree, Indexed, Chain, expr_and, operation_and}

pub row_is : (n : _) (row : rust.Row_of-Expression n) → expr_row row ≡ exprs (map expr (rust.items-the_row-Expression n row))
row_is n rust.end_of-Expression = refl
row_is n (rust.more_of-Expression p x xs) = ap (expr_and (expr_kind x)) (row_is _ xs)

pub operation_row_is : (n : _) (row : rust.Row_of-Operation n) → operation_row row ≡ operations (map operation_tree (rust.items-the_row-Operation n row))
operation_row_is n rust.end_of-Operation = refl
operation_row_is n (rust.more_of-Operation op p x xs) = ap (operation_and op (expr_kind x)) (operation_row_is _ xs)

pub indexed_is : (name : Lexeme) (arguments : Vec rustexpression.Expression) → expr_kind (e.Indexed name arguments) ≡ Indexed (written name) (exprs (map expr arguments.items))
indexed_is name arguments = ap (Indexed (written name)) (row_is _ (rust.TheBlock.hidden-the_row-Expression-0 arguments) ∙ ap (λ (xs : List rustexpression.Expression). exprs (map expr xs)) (rust.items_hidden-the_row-Expression-0 arguments))

pub chain_is : (first : rustexpression.Expression) (rest : Vec rustop.Operation) → expr_kind (e.Chain first rest) ≡ Chain (expr first) (operations (map operation_tree rest.items))
chain_is first rest = ap (Chain (expr first)) (operation_row_is _ (rust.TheBlock.hidden-the_row-Operation-1 rest) ∙ ap (λ (xs : List rustop.Operation). operations (map operation_tree xs)) (rust.items_hidden-the_row-Operation-1 rest))

-- ---- statements

pub stmt_row_is : (n : _) (row : rusts.Row_of-Statement n) → stmt_row row ≡ block (rusts.items-the_row-Statement n row)
stmt_row_is n rusts.end_of-Statement = refl
stmt_row_is n (rusts.more_of-Statement p x xs) = ap (stmt_and (stmt_kind x)) (stmt_row_is _ xs)

pub body_is : (body : Vec ruststatement.Statement) → stmt_row (rusts.TheBlock.hidden-the_row-Statement-1 body) ≡ block body.items
body_is body = stmt_row_is _ (rusts.TheBlock.hidden-the_row-Statement-1 body) ∙ ap block (rusts.items_hidden-the_row-Statement-1 body)

pub arm_row_is : (n : _) (row : rusts.Row_of-Arm n) (last : Arms) → arm_row row last ≡ arms (map arm_tree (rusts.items-the_row-Arm n row)) last
unfolding rustarm.out-Arm denote.Hole.Carrier.out
arm_row_is n rusts.end_of-Arm last = refl
arm_row_is n (rusts.more_of-Arm (rustarm.Arm' condition l body) xs) last =
    ap (arm (expr condition) (stmt_row body)) (arm_row_is _ xs last)
    ∙ ap (λ (b : Stmts). arm (expr condition) b (arms (map arm_tree (rusts.items-the_row-Arm _ xs)) last)) (stmt_row_is _ body ∙ ap block (sym (rusts.items_shown-the_row-Statement-1 l body)))

pub otherwise_is : (otherwise : Option (Vec ruststatement.Statement)) → otherwise_of (rusts.TheBlock.back-StatementKind-If-2 otherwise) ≡ otherwise_tree otherwise
otherwise_is None = refl
otherwise_is (Some body) = ap else_of (body_is body)

pub if_is : (first : rustarm.Arm) (others : Vec rustarm.Arm) (otherwise : Option (Vec ruststatement.Statement))
    → stmt_kind (s.If first others otherwise) ≡ If (arm_tree first).0 (arm_tree first).1 (arms (map arm_tree others.items) (otherwise_tree otherwise))
unfolding rustarm.out-Arm denote.Hole.Carrier.out
if_is (rustarm.Arm' condition l body) others otherwise =
    let last : Arms = otherwise_tree otherwise in
    let others_are = arm_row_is _ (rusts.TheBlock.hidden-the_row-Arm-0 others) last ∙ ap (λ (xs : List rustarm.Arm). arms (map arm_tree xs) last) (rusts.items_hidden-the_row-Arm-0 others) in
    let body_here : stmt_row body ≡ (arm_tree (rustarm.Arm' condition l body)).1 = stmt_row_is _ body ∙ ap block (sym (rusts.items_shown-the_row-Statement-1 l body)) in
    rw (body_here, otherwise_is otherwise, others_are) refl

pub for_is : (variable record_name : Lexeme) (body : Vec ruststatement.Statement) → stmt_kind (s.For variable record_name body) ≡ For (written variable) (written record_name) (block body.items)
for_is variable record_name body = ap (For (written variable) (written record_name)) (body_is body)

pub do_is : (c : Counting) (body : Vec ruststatement.Statement) → stmt_kind (s.Do c body) ≡ Do (counting c) (block body.items)
do_is c body = ap (Do (counting c)) (body_is body)
