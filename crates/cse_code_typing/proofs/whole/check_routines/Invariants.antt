use Rattle.std.proofs.Common.{◌≡◌}
use Rattle.cse_value.specs.Shape.{shape_lists}
use Rattle.cse_code_typing.specs.Code.{start_of}
use Rattle.cse_code_typing.specs.Typed.{AreTypedBelow}
use Rattle.cse_code_typing.proofs.whole.check_routines.Given as goal

-- the routines before are typed
abbrev pub invariant-loop-routine : goal.invariant-loop-routine
invariant-loop-routine g l = record {
  start_is : l.start ≡ start_of l.program.lists.routines l.routine-index;
  number_is : l.number ≡ l.routine-index;
  before : AreTypedBelow (shape_lists l.shape) l.program l.routine-index;
}
