use Rattle.std.proofs.Common.{◌≡◌, ◌<◌, ◌≤◌, length, get_or, subst, List}
use Rattle.cse_syntax_tree.specs.declared.tree.Expression.{Expression}
use Rattle.cse_logic_faults.proofs.Arguments.{arguments_turn, arguments_end}
use Rattle.cse_logic_faults.proofs.message.arguments.Goals as goal

pub all-preserved : goal.all-preserved
all-preserved c =
    let items = c.args.values.now.items in
    let x = c.x-item.result in
    let whole = c.deref-x-items.ensures.value in
    let lt : c.all.x-index < length items = subst (λ (xs : List Expression). c.all.x-index < length xs) whole c.all-test.true in
    let is : x ≡ get_or items c.all.x-index x = subst (λ (xs : List Expression). x ≡ get_or xs c.all.x-index x) whole c.x-item.is in
    arguments_turn c.args.counts.now c.args.scope.now items c.all.x-index x lt is _ _ _ _ _ c.next-kind.result c.all.invariant c.next-kind.ensures.steps c.in_ok-argument.ensures

pub returns : goal.returns
returns c =
    let items = c.args.values.now.items in
    let le : length items ≤ c.all.x-index = subst (λ (xs : List Expression). length xs ≤ c.all.x-index) c.deref-x-items.ensures.value c.all-test.false in
    arguments_end c.args.counts.now c.args.scope.now items c.all.x-index le _ _ _ c.all.invariant
