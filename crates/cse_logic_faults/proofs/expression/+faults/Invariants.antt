use Rattle.std.proofs.Common.{◌≡◌, ◌+◌, ◌++◌, length, map, drop}
use Rattle.cse_syntax_tree.specs.Tree.{expr, exprs, operations, operation_tree}
use Rattle.cse_logic_faults.specs.FaultsOfExpressions.{numbers_faults, operations_faults}
use Rattle.cse_logic_faults.proofs.expression.+faults.Given as goal

abbrev pub invariant-numbers-all : goal.invariant-numbers-all
invariant-numbers-all l =
    l.found ++ numbers_faults l.counts l.scope (exprs (map expr (drop l.x-index l.all.items))) ≡ l.initial.found ++ numbers_faults l.counts l.scope (exprs (map expr l.all.items))

abbrev pub invariant-operations_in-all : goal.invariant-operations_in-all
invariant-operations_in-all l = record {
  found : l.found ++ operations_faults l.counts l.scope l.top (operations (map operation_tree (drop l.x-index l.all.items))) ≡ l.initial.found ++ operations_faults l.counts l.scope l.top (operations (map operation_tree l.all.items));
  left : l.left + l.x-index ≡ length l.all.items;
}
