use Rattle.std.proofs.Common.{◌≡◌, ◌<◌, ◌≤◌, length, get_or, map, refl, subst, List}
use Rattle.cse_logic_tree.specs.declared.tree.Argument.{Argument}
use Rattle.cse_logic_tree.specs.Typed as typed
use Rattle.cse_logic_names.specs.Uses as spec
use Rattle.cse_types.proofs.Gathering.{gather_turn, gather_end}
use Rattle.cse_types.proofs.facts.arguments.Goals as goal

pub all-preserved : goal.all-preserved
all-preserved c =
    let items = c.args.all.now.items in
    let x = c.x-item.result in
    let whole = c.deref-x-items.ensures.value in
    let lt : c.all.x-index < length items = subst (λ (xs : List Argument). c.all.x-index < length xs) whole c.all-test.true in
    let is : x ≡ get_or items c.all.x-index x = subst (λ (xs : List Argument). x ≡ get_or xs c.all.x-index x) whole c.x-item.is in
    gather_turn c.args.functions.now (λ (y : Argument). spec.uses_argument (typed.argument y)) (λ (ys : List Argument). spec.uses_arguments (map typed.argument ys)) (λ y ys. refl) items c.all.x-index x lt is _ _ _ c.all.invariant c.in_ok-argument.ensures

pub returns : goal.returns
returns c =
    let items = c.args.all.now.items in
    let le : length items ≤ c.all.x-index = subst (λ (xs : List Argument). length xs ≤ c.all.x-index) c.deref-x-items.ensures.value c.all-test.false in
    gather_end c.args.functions.now (λ (ys : List Argument). spec.uses_arguments (map typed.argument ys)) refl items c.all.x-index le _ _ c.all.invariant
