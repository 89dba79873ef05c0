use Rattle.std.proofs.Common.{◌≡◌, ◌++◌, map, drop, length}
use Rattle.std.specs.Prelude.{◌||◌, not}
use Rattle.cse_syntax_tree.specs.Tree as syntax
use Rattle.cse_logic_tree.specs.Typed as typed
use Rattle.cse_logic_names.specs.WellTyped.{declared_messages}
use Rattle.cse_types.specs.JudgeTree as spec
use Rattle.cse_types.specs.Told.{told_of}
use Rattle.cse_logic_names.specs.Walk.{so_far}
use Rattle.cse_types.proofs.declaration.declarations.Given as goal

abbrev pub invariant-all : goal.invariant-all
invariant-all l = record {
  value : so_far l.is_sound (map typed.declaration l.found.items) (spec.declarations_judged l.scope (length l.told.items) (map syntax.declaration (drop l.x-index l.all.items))) ≡ spec.declarations_judged l.initial.scope (length l.initial.told.items) (map syntax.declaration l.all.items);
  behind : spec.behind_all l.scope (length l.told.items) (map syntax.declaration (drop l.x-index l.all.items)) ≡ spec.behind_all l.initial.scope (length l.initial.told.items) (map syntax.declaration l.all.items);
  told : map told_of l.told.items ++ declared_messages (map syntax.declaration (drop l.x-index l.all.items)) ≡ map told_of l.initial.told.items ++ declared_messages (map syntax.declaration l.all.items);
}
