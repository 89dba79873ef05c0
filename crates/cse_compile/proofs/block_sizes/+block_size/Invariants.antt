use Rattle.std.proofs.Common.{◌≡◌, ◌+◌, ◌≤◌, drop, length, map}
use Rattle.std.specs.Prelude.{min}
use Rattle.cse_logic_tree.specs.Typed.{block, arm_tree}
use Rattle.cse_compile.specs.Setting.{setting}
use Rattle.cse_compile.specs.Statements as spec
use Rattle.cse_compile.proofs.block_sizes.+block_size.Given as goal

abbrev pub invariant-block_size-all : goal.invariant-block_size-all
invariant-block_size-all l = (l.size ≤ 1000001) × (min (l.size + spec.block_size (setting l.s) (block (drop l.x-index l.xs.items))) 1000001 ≡ min (spec.block_size (setting l.s) (block l.xs.items)) 1000001)

abbrev pub decreases-arms_size-all : goal.decreases-arms_size-all
decreases-arms_size-all l = l.left

abbrev pub invariant-arms_size-all : goal.invariant-arms_size-all
invariant-arms_size-all l = record {
  capped : l.size ≤ 1000001;
  within : l.left ≤ length l.others.items;
  size : l.size ≡ min (spec.all_arms_size (setting l.s) (map arm_tree (drop l.left l.others.items)) l.last) 1000001;
}
