use Rattle.std.proofs.Common.{◌≡◌, ◌<◌, ◌≤◌, length, get_or, map, refl, subst, List}
use Rattle.std.specs.Prelude.{false}
use Rattle.cse_syntax_tree.specs.declared.tree.Expression.{Expression}
use Rattle.cse_syntax_tree.specs.Tree.{expr, exprs}
use Rattle.cse_logic_faults.specs.FaultsOfExpressions.{expr_faults}
use Rattle.cse_logic_faults.specs.FaultsOfStatements.{values_faults}
use Rattle.cse_logic_faults.proofs.Lists.{turn, found_end}
use Rattle.cse_logic_faults.proofs.message.values_in.Goals as goal

pub all-preserved : goal.all-preserved
all-preserved c =
    let items = c.args.all.now.items in
    let x = c.x-item.result in
    let whole = c.deref-x-items.ensures.value in
    let lt : c.all.x-index < length items = subst (λ (xs : List Expression). c.all.x-index < length xs) whole c.all-test.true in
    let is : x ≡ get_or items c.all.x-index x = subst (λ (xs : List Expression). x ≡ get_or xs c.all.x-index x) whole c.x-item.is in
    turn (λ (y : Expression). expr_faults c.args.counts.now c.args.scope.now false (expr y)) (λ (ys : List Expression). values_faults c.args.counts.now c.args.scope.now (exprs (map expr ys)))
    (λ y ys. refl) items c.all.x-index x lt is _ _ _ c.all.invariant c.in_ok-expression.ensures

pub returns : goal.returns
returns c =
    let items = c.args.all.now.items in
    let le : length items ≤ c.all.x-index = subst (λ (xs : List Expression). length xs ≤ c.all.x-index) c.deref-x-items.ensures.value c.all-test.false in
    found_end (λ (ys : List Expression). values_faults c.args.counts.now c.args.scope.now (exprs (map expr ys))) refl items c.all.x-index le _ _ c.all.invariant
