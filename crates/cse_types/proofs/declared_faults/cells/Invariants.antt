use Rattle.std.proofs.Common.{◌≡◌, ◌++◌, map, drop}
use Rattle.cse_syntax_tree.specs.Tree as syntax
use Rattle.cse_types.specs.PartFaults.{cells_faults}
use Rattle.cse_types.proofs.declared_faults.cells.Given as goal

abbrev pub invariant-all : goal.invariant-all
invariant-all l = l.found ++ cells_faults (map syntax.literal (drop l.x-index l.all.items)) ≡ l.initial.found ++ cells_faults (map syntax.literal l.all.items)
