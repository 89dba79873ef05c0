use Rattle.std.proofs.Common.{◌≡◌, ◌++◌, length, map, drop}
use Rattle.cse_syntax_tree.specs.Tree as syntax
use Rattle.cse_types.specs.JudgeTree.{behind_all}
use Rattle.cse_types.specs.SourceFaults.{declarations_faults}
use Rattle.cse_types.proofs.declared.all_declarations.Given as goal

abbrev pub invariant-all : goal.invariant-all
invariant-all l = record {
  found : l.found ++ declarations_faults l.counts l.scope (length l.told.items) (map syntax.declaration (drop l.x-index l.all.items)) ≡ l.initial.found ++ declarations_faults l.counts l.initial.scope (length l.initial.told.items) (map syntax.declaration l.all.items);
  behind : behind_all l.scope (length l.told.items) (map syntax.declaration (drop l.x-index l.all.items)) ≡ behind_all l.initial.scope (length l.initial.told.items) (map syntax.declaration l.all.items);
}
