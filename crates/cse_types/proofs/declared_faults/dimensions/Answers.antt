use Rattle.std.proofs.Common.{◌≤◌, length, map, refl, subst, List}
use Rattle.cse_syntax_tree.specs.declared.tree.Dimension.{Dimension}
use Rattle.cse_syntax_tree.specs.Tree as syntax
use Rattle.cse_types.specs.PartFaults.{dimensions_faults}
use Rattle.cse_types.proofs.PartFoundLaws.{dimensions_turn}
use Rattle.cse_types.proofs.declared_faults.dimensions.Goals as goal
use Rattle.cse_logic_faults.proofs.Lists.{found_end}

pub all-preserved : goal.all-preserved
all-preserved c =
    dimensions_turn c.args.scope.now c.deref-x-items.result.now c.args.all.now.items c.deref-x-items.ensures.value c.all.x-index _ c.all-test.true c.all.found c.dimension.new.found _ c.all.invariant c.in_ok-dimension.ensures

pub returns : goal.returns
returns c =
    let items = c.args.all.now.items in
    let le : length items ≤ c.all.x-index = subst (λ (xs : List Dimension). length xs ≤ c.all.x-index) c.deref-x-items.ensures.value c.all-test.false in
    found_end (λ (xs : List Dimension). dimensions_faults c.args.scope.now (map syntax.dimension xs)) refl items c.all.x-index le _ _ c.all.invariant
