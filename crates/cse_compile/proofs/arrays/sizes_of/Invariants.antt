use Rattle.std.proofs.Common.{◌≡◌, ◌++◌, [], drop, map}
use Rattle.cse_logic_tree.specs.Typed.{dimension}
use Rattle.cse_compile.specs.Tables.{size_of}
use Rattle.cse_compile.proofs.arrays.sizes_of.Given as goal

abbrev pub invariant-all : goal.invariant-all
invariant-all l = l.sizes.items ++ map size_of (map dimension (drop l.written-index l.dimensions)) ≡ map size_of (map dimension l.dimensions)
