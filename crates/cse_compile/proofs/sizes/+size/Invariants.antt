use Rattle.std.proofs.Common.{◌≡◌, ◌+◌, ◌≤◌, drop, map}
use Rattle.std.specs.Prelude.{min}
use Rattle.cse_logic_tree.specs.Typed.{number, numbers, operations, operation_tree}
use Rattle.cse_compile.specs.Expressions as spec
use Rattle.cse_compile.proofs.sizes.+size.Given as goal

abbrev pub invariant-numbers_size-all : goal.invariant-numbers_size-all
invariant-numbers_size-all l = (l.size ≤ 1000001) × (min (l.size + spec.numbers_size (numbers (map number (drop l.x-index l.xs.items)))) 1000001 ≡ min (spec.numbers_size (numbers (map number l.xs.items))) 1000001)

abbrev pub invariant-indexes_size-all : goal.invariant-indexes_size-all
invariant-indexes_size-all l = (l.size ≤ 1000001) × (min (l.size + spec.indexes_size (numbers (map number (drop l.x-index l.xs.items)))) 1000001 ≡ min (spec.indexes_size (numbers (map number l.xs.items))) 1000001)

abbrev pub invariant-operations_size-all : goal.invariant-operations_size-all
invariant-operations_size-all l = (l.size ≤ 1000001) × (min (l.size + spec.operations_size (operations (map operation_tree (drop l.x-index l.xs.items)))) 1000001 ≡ min (spec.operations_size (operations (map operation_tree l.xs.items))) 1000001)
