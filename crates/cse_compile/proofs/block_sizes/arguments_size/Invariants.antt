use Rattle.std.proofs.Common.{◌≡◌, ◌+◌, ◌≤◌, drop, map}
use Rattle.std.specs.Prelude.{min}
use Rattle.cse_logic_tree.specs.Typed.{argument}
use Rattle.cse_compile.specs.Statements as spec
use Rattle.cse_compile.proofs.block_sizes.arguments_size.Given as goal

abbrev pub invariant-all : goal.invariant-all
invariant-all l = (l.size ≤ 1000001) × (min (l.size + spec.arguments_size (map argument (drop l.x-index l.xs.items))) 1000001 ≡ min (spec.arguments_size (map argument l.xs.items)) 1000001)
