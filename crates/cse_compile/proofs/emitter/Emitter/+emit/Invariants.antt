use Rattle.std.proofs.Common.{◌≡◌, ◌+◌, ◌++◌, drop, map}
use Rattle.cse_logic_tree.specs.Typed.{number, numbers, operations, operation_tree}
use Rattle.cse_compile.specs.Setting.{setting}
use Rattle.cse_compile.specs.Expressions.{numbers_size, numbers_code, indexes_size, indexes_code, operations_size, operations_code, count}
use Rattle.cse_compile.proofs.emitter.Emitter.+emit.Given as goal

-- what was written, and the code of what is left
abbrev pub invariant-numbers-all : goal.invariant-numbers-all
invariant-numbers-all l = record {
  size : l.at + numbers_size (numbers (map number (drop l.x-index l.xs.items))) ≡ l.place + numbers_size (numbers (map number l.xs.items));
  code : l.self ++ numbers_code (setting l.s) l.at (numbers (map number (drop l.x-index l.xs.items))) ≡ l.initial.self ++ numbers_code (setting l.s) l.place (numbers (map number l.xs.items));
}

abbrev pub invariant-indexes-all : goal.invariant-indexes-all
invariant-indexes-all l = record {
  size : l.at + indexes_size (numbers (map number (drop l.x-index l.xs.items))) ≡ l.place + indexes_size (numbers (map number l.xs.items));
  direction : l.direction ≡ l.x-index;
  fail : l.fail ≡ l.drops + count (numbers (map number (drop l.x-index l.xs.items)));
  code : l.self ++ indexes_code (setting l.s) l.array l.drops l.direction l.at (numbers (map number (drop l.x-index l.xs.items))) ≡ l.initial.self ++ indexes_code (setting l.s) l.array l.drops 0 l.place (numbers (map number l.xs.items));
}

abbrev pub invariant-operations-all : goal.invariant-operations-all
invariant-operations-all l = record {
  size : l.at + operations_size (operations (map operation_tree (drop l.x-index l.xs.items))) ≡ l.place + operations_size (operations (map operation_tree l.xs.items));
  code : l.self ++ operations_code (setting l.s) l.at (operations (map operation_tree (drop l.x-index l.xs.items))) ≡ l.initial.self ++ operations_code (setting l.s) l.place (operations (map operation_tree l.xs.items));
}
