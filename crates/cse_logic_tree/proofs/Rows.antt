-- The children that a tree holds in a `Vec`: the view of a node that is made of them. Walks over trees in the crates above
-- cite these lemmas.
use Rattle.std.proofs.Common.{◌≡◌, ℕ, List, map, Option, Some, None, refl, ap, sym, ◌∙◌}
use Rattle.std.specs.Global.{Vec}
use Rattle.cse_syntax_tree.specs.declared.tree.Lexeme.{Lexeme}
use Rattle.cse_syntax_tree.specs.Tree.{written}
use Rattle.cse_logic_tree.specs.declared.tree.Variable.{Variable}
use Rattle.cse_logic_tree.specs.declared.tree.Operation as rustop
use Rattle.cse_logic_tree.specs.declared.tree.Number as rustnumber
use Rattle.cse_logic_tree.specs.declared.tree.NumberKind as rust
use Rattle.cse_logic_tree.specs.declared.tree.NumberKind.TheVariants as n
use Rattle.cse_logic_tree.specs.declared.tree.Counting.{Counting}
use Rattle.cse_logic_tree.specs.declared.tree.Statement as ruststatement
use Rattle.cse_logic_tree.specs.declared.tree.StatementKind as rusts
use Rattle.cse_logic_tree.specs.declared.tree.StatementKind.TheVariants as s
use Rattle.cse_logic_tree.specs.declared.tree.Arm as rustarm
use Rattle.cse_logic_tree.specs.Typed.{Cell, Call, Chain, number, number_kind, numbers, number_row, number_and, operations, operation_row, operation_tree, operation_and}
use Rattle.cse_logic_tree.specs.Typed.{If, For, Do, Statements, Arms, statement_and, arm, arms, else_of, counting, statement, statement_kind, statement_row, arm_row, otherwise_of, block, arm_tree, otherwise_tree}

pub number_row_is : (m : _) (row : rust.Row_of-Number m) → number_row row ≡ numbers (map number (rust.items-the_row-Number m row))
number_row_is m rust.end_of-Number = refl
number_row_is m (rust.more_of-Number p x xs) = ap (number_and (number_kind x)) (number_row_is _ xs)

pub operation_row_is : (m : _) (row : rust.Row_of-Operation m) → operation_row row ≡ operations (map operation_tree (rust.items-the_row-Operation m row))
operation_row_is m rust.end_of-Operation = refl
operation_row_is m (rust.more_of-Operation op p x xs) = ap (operation_and op (number_kind x)) (operation_row_is _ xs)

numbers_are : (xs : Vec rustnumber.Number) → number_row (rust.TheBlock.hidden-the_row-Number-0 xs) ≡ numbers (map number xs.items)
numbers_are xs = number_row_is _ (rust.TheBlock.hidden-the_row-Number-0 xs) ∙ ap (λ (ys : List rustnumber.Number). numbers (map number ys)) (rust.items_hidden-the_row-Number-0 xs)

pub cell_is : (name : Lexeme) (array : ℕ) (subscripts : Vec rustnumber.Number) → number_kind (n.Cell name array subscripts) ≡ Cell (written name) array (numbers (map number subscripts.items))
cell_is name array subscripts = ap (Cell (written name) array) (numbers_are subscripts)

pub call_is : (name : Lexeme) (function : ℕ) (arguments : Vec rustnumber.Number) → number_kind (n.Call name function arguments) ≡ Call (written name) function (numbers (map number arguments.items))
call_is name function arguments = ap (Call (written name) function) (numbers_are arguments)

pub chain_is : (first : rustnumber.Number) (others : Vec rustop.Operation) → number_kind (n.Chain first others) ≡ Chain (number first) (operations (map operation_tree others.items))
chain_is first others = ap (Chain (number first)) (operation_row_is _ (rust.TheBlock.hidden-the_row-Operation-1 others) ∙ ap (λ (xs : List rustop.Operation). operations (map operation_tree xs)) (rust.items_hidden-the_row-Operation-1 others))

-- ---- statements

pub statement_row_is : (n : _) (row : rusts.Row_of-Statement n) → statement_row row ≡ block (rusts.items-the_row-Statement n row)
statement_row_is n rusts.end_of-Statement = refl
statement_row_is n (rusts.more_of-Statement p x xs) = ap (statement_and (statement_kind x)) (statement_row_is _ xs)

pub body_is : (body : Vec ruststatement.Statement) → statement_row (rusts.TheBlock.hidden-the_row-Statement-1 body) ≡ block body.items
body_is body = statement_row_is _ (rusts.TheBlock.hidden-the_row-Statement-1 body) ∙ ap block (rusts.items_hidden-the_row-Statement-1 body)

pub arm_row_is : (n : _) (row : rusts.Row_of-Arm n) (last : Arms) → arm_row row last ≡ arms (map arm_tree (rusts.items-the_row-Arm n row)) last
unfolding rustarm.out-Arm denote.Hole.Carrier.out
arm_row_is n rusts.end_of-Arm last = refl
arm_row_is n (rusts.more_of-Arm (rustarm.Arm' condition l body) xs) last =
    ap (arm (number condition) (statement_row body)) (arm_row_is _ xs last)
    ∙ ap (λ (b : Statements). arm (number condition) b (arms (map arm_tree (rusts.items-the_row-Arm _ xs)) last)) (statement_row_is _ body ∙ ap block (sym (rusts.items_shown-the_row-Statement-1 l body)))

pub otherwise_is : (otherwise : Option (Vec ruststatement.Statement)) → otherwise_of (rusts.TheBlock.back-StatementKind-If-2 otherwise) ≡ otherwise_tree otherwise
otherwise_is None = refl
otherwise_is (Some body) = ap else_of (body_is body)

pub if_is : (first : rustarm.Arm) (others : Vec rustarm.Arm) (otherwise : Option (Vec ruststatement.Statement))
    → statement_kind (s.If first others otherwise) ≡ If (arm_tree first).0 (arm_tree first).1 (arms (map arm_tree others.items) (otherwise_tree otherwise))
unfolding rustarm.out-Arm denote.Hole.Carrier.out
if_is (rustarm.Arm' condition l body) others otherwise =
    let last : Arms = otherwise_tree otherwise in
    let others_are = arm_row_is _ (rusts.TheBlock.hidden-the_row-Arm-0 others) last ∙ ap (λ (xs : List rustarm.Arm). arms (map arm_tree xs) last) (rusts.items_hidden-the_row-Arm-0 others) in
    let body_here : statement_row body ≡ (arm_tree (rustarm.Arm' condition l body)).1 = statement_row_is _ body ∙ ap block (sym (rusts.items_shown-the_row-Statement-1 l body)) in
    rw (body_here, otherwise_is otherwise, others_are) refl

pub for_is : (name : Lexeme) (variable : Variable) (record_name : Lexeme) (of : ℕ) (body : Vec ruststatement.Statement) → statement_kind (s.For name variable record_name of body) ≡ For (written name) variable (written record_name) of (block body.items)
for_is name variable record_name of body = ap (For (written name) variable (written record_name) of) (body_is body)

pub do_is : (c : Counting) (body : Vec ruststatement.Statement) → statement_kind (s.Do c body) ≡ Do (counting c) (block body.items)
do_is c body = ap (Do (counting c)) (body_is body)
