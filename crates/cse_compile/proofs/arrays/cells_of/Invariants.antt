use Rattle.std.proofs.Common.{◌≡◌, ◌++◌, [], drop, map}
use Rattle.cse_logic_tree.specs.Typed.{whole}
use Rattle.cse_compile.specs.Tables.{cell_of}
use Rattle.cse_compile.proofs.arrays.cells_of.Given as goal

abbrev pub invariant-all : goal.invariant-all
invariant-all l = l.cells.items ++ map cell_of (map whole (drop l.value-index l.values)) ≡ map cell_of (map whole l.values)
