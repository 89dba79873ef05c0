use Rattle.std.proofs.Common.{◌≡◌, length, map, drop}
use Rattle.std.specs.Prelude.{◌++◌, ◌||◌, not}
use Rattle.cse_logic_tree.specs.Typed.{statement, arm_tree}
use Rattle.cse_types.specs.Told.{told_of}
use Rattle.cse_logic_names.specs.Walk.{so_far}
use Rattle.cse_types.proofs.Counted.{walk_from, gathered}
use Rattle.cse_types.proofs.Blocks.{statement_at, messages_at, count_at, arm_at, arm_messages, arm_count}
use Rattle.cse_types.proofs.statement.+act.Given as goal

abbrev pub invariant-block-all : goal.invariant-block-all
invariant-block-all l = record {
  value : so_far l.is_sound (map statement l.found.items) (walk_from (statement_at l.initial.scope) count_at (length l.told.items) (drop l.x-index l.statements.items)) ≡ walk_from (statement_at l.initial.scope) count_at (length l.initial.told.items) l.statements.items;
  told : map told_of l.told.items ++ gathered messages_at (drop l.x-index l.statements.items) ≡ map told_of l.initial.told.items ++ gathered messages_at l.statements.items;
  same : l.scope ≡ l.initial.scope;
}

abbrev pub invariant-arms-all : goal.invariant-arms-all
invariant-arms-all l = record {
  value : so_far l.is_sound (map arm_tree l.found.items) (walk_from (arm_at l.initial.scope) arm_count (length l.told.items) (drop l.x-index l.others.items)) ≡ walk_from (arm_at l.initial.scope) arm_count (length l.initial.told.items) l.others.items;
  told : map told_of l.told.items ++ gathered arm_messages (drop l.x-index l.others.items) ≡ map told_of l.initial.told.items ++ gathered arm_messages l.others.items;
  same : l.scope ≡ l.initial.scope;
}
