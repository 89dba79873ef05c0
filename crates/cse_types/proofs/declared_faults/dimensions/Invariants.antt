use Rattle.std.proofs.Common.{◌≡◌, ◌++◌, map, drop}
use Rattle.cse_syntax_tree.specs.Tree as syntax
use Rattle.cse_types.specs.PartFaults.{dimensions_faults}
use Rattle.cse_types.proofs.declared_faults.dimensions.Given as goal

abbrev pub invariant-all : goal.invariant-all
invariant-all l = l.found ++ dimensions_faults l.scope (map syntax.dimension (drop l.x-index l.all.items)) ≡ l.initial.found ++ dimensions_faults l.scope (map syntax.dimension l.all.items)
