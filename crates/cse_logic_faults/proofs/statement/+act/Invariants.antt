use Rattle.std.proofs.Common.{◌≡◌, ◌++◌, map, drop}
use Rattle.cse_syntax_tree.specs.Tree.{block, arms, arm_tree, no_arm}
use Rattle.cse_logic_faults.specs.FaultsOfStatements.{stmts_faults, arms_faults}
use Rattle.cse_logic_faults.proofs.statement.+act.Given as goal

abbrev pub invariant-block-all : goal.invariant-block-all
invariant-block-all l = record {
  found : l.found ++ stmts_faults l.counts l.initial.scope (block (drop l.x-index l.all.items)) ≡ l.initial.found ++ stmts_faults l.counts l.initial.scope (block l.all.items);
  same : l.scope ≡ l.initial.scope;
}

abbrev pub invariant-arms-all : goal.invariant-arms-all
invariant-arms-all l = record {
  found : l.found ++ arms_faults l.counts l.initial.scope (arms (map arm_tree (drop l.x-index l.all.items)) no_arm) ≡ l.initial.found ++ arms_faults l.counts l.initial.scope (arms (map arm_tree l.all.items) no_arm);
  same : l.scope ≡ l.initial.scope;
}
