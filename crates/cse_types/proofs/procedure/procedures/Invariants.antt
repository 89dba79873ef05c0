use Rattle.std.proofs.Common.{◌≡◌, ◌++◌, map, drop, length}
use Rattle.std.specs.Prelude.{◌||◌, not}
use Rattle.cse_syntax_tree.specs.Tree as syntax
use Rattle.cse_logic_tree.specs.Typed as typed
use Rattle.cse_logic_names.specs.WellTyped.{procedure_messages}
use Rattle.cse_types.specs.JudgeTree as spec
use Rattle.cse_types.specs.Told.{told_of}
use Rattle.cse_logic_names.specs.Walk.{so_far}
use Rattle.cse_types.proofs.procedure.procedures.Given as goal

abbrev pub invariant-all : goal.invariant-all
invariant-all l = record {
  value : so_far l.is_sound (map typed.procedure l.found.items) (spec.procedures_judged l.scope (length l.told.items) (map syntax.procedure (drop l.x-index l.all))) ≡ spec.procedures_judged l.initial.scope (length l.initial.told.items) (map syntax.procedure l.all);
  same : l.scope ≡ l.initial.scope;
  told : map told_of l.told.items ++ procedure_messages (map syntax.procedure (drop l.x-index l.all)) ≡ map told_of l.initial.told.items ++ procedure_messages (map syntax.procedure l.all);
}
