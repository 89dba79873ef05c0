use Rattle.std.proofs.Common.{◌≡◌, ℕ, ◌<◌}
use Rattle.cse_code_typing.specs.Code.{start_of}
use Rattle.cse_code_typing.specs.Skeleton.{skeleton_of}
use Rattle.cse_code_typing.specs.Bracket.{KeepsRules}
use Rattle.cse_code_typing.proofs.jumps.check_jumps_and_brackets.Given as goal

-- the routines before keep the rules
abbrev pub invariant-loop-head : goal.invariant-loop-head
invariant-loop-head g l = record {
  start_is : l.start ≡ start_of l.program.lists.routines l.head-index;
  routine_is : l.routine ≡ l.head-index;
  before : (r : ℕ) → r < l.head-index → KeepsRules (skeleton_of l.program r);
}
