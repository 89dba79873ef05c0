use Rattle.std.proofs.Common.{◌≡◌, ◌++◌, map, drop}
use Rattle.cse_syntax_tree.specs.Tree.{expr, exprs}
use Rattle.cse_logic_faults.specs.FaultsOfStatements.{values_faults}
use Rattle.cse_logic_faults.proofs.message.values_in.Given as goal

abbrev pub invariant-all : goal.invariant-all
invariant-all l =
    l.found ++ values_faults l.counts l.scope (exprs (map expr (drop l.x-index l.all.items))) ≡ l.initial.found ++ values_faults l.counts l.scope (exprs (map expr l.all.items))
