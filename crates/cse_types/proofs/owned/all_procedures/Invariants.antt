use Rattle.std.proofs.Common.{◌≡◌, ◌++◌, [], map, drop}
use Rattle.cse_syntax_tree.specs.Tree as syntax
use Rattle.cse_types.specs.PartFaults.{procedures_faults}
use Rattle.cse_types.proofs.owned.all_procedures.Given as goal

abbrev pub invariant-all : goal.invariant-all
invariant-all l = record {
  found : l.found ++ procedures_faults l.counts l.initial.scope l.before (map syntax.procedure (drop l.x-index l.all)) ≡ l.initial.found ++ procedures_faults l.counts l.initial.scope [] (map syntax.procedure l.all);
  same : l.scope ≡ l.initial.scope;
}
