use Rattle.std.proofs.Common.{◌≤◌, length, map, refl, subst, List}
use Rattle.cse_syntax_tree.specs.declared.tree.Literal.{Literal}
use Rattle.cse_syntax_tree.specs.Tree as syntax
use Rattle.cse_types.specs.PartFaults.{cells_faults}
use Rattle.cse_types.proofs.PartFoundLaws.{cells_turn}
use Rattle.cse_types.proofs.declared_faults.cells.Goals as goal
use Rattle.cse_logic_faults.proofs.Lists.{found_end}

pub all-preserved : goal.all-preserved
all-preserved c =
    cells_turn c.deref-x-items.result.now c.args.all.now.items c.deref-x-items.ensures.value c.all.x-index _ c.all-test.true c.all.found c.cell.new.found _ c.all.invariant c.in_ok-cell.ensures

pub returns : goal.returns
returns c =
    let items = c.args.all.now.items in
    let le : length items ≤ c.all.x-index = subst (λ (xs : List Literal). length xs ≤ c.all.x-index) c.deref-x-items.ensures.value c.all-test.false in
    found_end (λ (xs : List Literal). cells_faults (map syntax.literal xs)) refl items c.all.x-index le _ _ c.all.invariant
