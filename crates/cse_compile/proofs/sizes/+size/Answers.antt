use Rattle.std.proofs.Common.{◌≡◌, ◌+◌, drop, ap, sym, ◌∙◌, arith, map}
use Rattle.cse_logic_tree.specs.Typed.{number, number_kind, numbers, operations, operation_tree}
use Rattle.cse_logic_tree.proofs.Rows.{cell_is, call_is, chain_is}
use Rattle.cse_compile.specs.Expressions.{number_size, indexes_size, numbers_size, operations_size, behind}
use Rattle.cse_compile.proofs.Codes.{left_at, numbers_size_told, indexes_size_told, operations_size_told}
use Rattle.cse_compile.proofs.sizes.+size.Goals as goal

pub number_size-returns-in-Cell : goal.number_size-returns-in-Cell
unfolding number_size
number_size-returns-in-Cell t c =
    let e : number_size (number c.args.x.now) ≡ indexes_size (numbers (map number c.in-Cell.subscripts.items)) + (behind (numbers (map number c.in-Cell.subscripts.items)) + 3) =
    ap (λ x. number_size (number_kind x)) (sym c.deref.ensures ∙ c.in-Cell.is) ∙ ap number_size (cell_is c.in-Cell.field-0 c.in-Cell.field-1 c.in-Cell.subscripts) in
    omega (arith, e, c.indexes_size.ensures, c.behind.ensures, c.plus-in-Cell.ensures, c.plus-in-Cell-2.ensures)

pub number_size-returns-in-Call : goal.number_size-returns-in-Call
unfolding number_size
number_size-returns-in-Call t c =
    let e : number_size (number c.args.x.now) ≡ numbers_size (numbers (map number c.in-Call.arguments.items)) + 1 =
    ap (λ x. number_size (number_kind x)) (sym c.deref.ensures ∙ c.in-Call.is) ∙ ap number_size (call_is c.in-Call.field-0 c.in-Call.field-1 c.in-Call.arguments) in
    omega (arith, e, c.numbers_size.ensures, c.plus-in-Call.ensures)

pub number_size-returns-in-Chain : goal.number_size-returns-in-Chain
unfolding number_size
number_size-returns-in-Chain t c =
    let e : number_size (number c.args.x.now) ≡ number_size (number c.in-Chain.first) + operations_size (operations (map operation_tree c.in-Chain.others.items)) =
    ap (λ x. number_size (number_kind x)) (sym c.deref.ensures ∙ c.in-Chain.is) ∙ ap number_size (chain_is c.in-Chain.first c.in-Chain.others) in
    omega (arith, e, c.number_size-in-Chain.ensures, c.operations_size.ensures, c.plus-in-Chain.ensures)

pub numbers_size-all-preserved : goal.numbers_size-all-preserved
numbers_size-all-preserved t c =
    let all = numbers (map number (drop c.all.x-index c.args.xs.now.items)) in
    let xs = numbers (map number (drop (c.all.x-index + 1) c.args.xs.now.items)) in
    let split = ap (λ ys. numbers (map number ys)) (left_at c.args.xs.now.items c.deref-x-items.result.now c.all.x-index c.x-item.result c.deref-x-items.ensures.value c.all-test.true c.x-item.is) in
    numbers_size_told (number c.x-item.result) xs all c.all.size c.number_size.result c.plus-size.result _ split c.number_size.ensures c.plus-size.ensures c.all.invariant.1

pub indexes_size-all-preserved : goal.indexes_size-all-preserved
indexes_size-all-preserved t c =
    let all = numbers (map number (drop c.all.x-index c.args.xs.now.items)) in
    let xs = numbers (map number (drop (c.all.x-index + 1) c.args.xs.now.items)) in
    let split = ap (λ ys. numbers (map number ys)) (left_at c.args.xs.now.items c.deref-x-items.result.now c.all.x-index c.x-item.result c.deref-x-items.ensures.value c.all-test.true c.x-item.is) in
    indexes_size_told (number c.x-item.result) xs all c.all.size c.number_size.result c.plus.result c.plus-size.result _ split c.number_size.ensures c.plus.ensures c.plus-size.ensures c.all.invariant.1

pub operations_size-all-preserved : goal.operations_size-all-preserved
operations_size-all-preserved t c =
    let all = operations (map operation_tree (drop c.all.x-index c.args.xs.now.items)) in
    let xs = operations (map operation_tree (drop (c.all.x-index + 1) c.args.xs.now.items)) in
    let split = ap (λ ys. operations (map operation_tree ys)) (left_at c.args.xs.now.items c.deref-x-items.result.now c.all.x-index c.x-item.result c.deref-x-items.ensures.value c.all-test.true c.x-item.is) in
    operations_size_told c.x-item.result.operator (number c.x-item.result.operand) xs all c.all.size c.number_size.result c.plus.result c.plus-size.result _ split c.number_size.ensures c.plus.ensures c.plus-size.ensures c.all.invariant.1
