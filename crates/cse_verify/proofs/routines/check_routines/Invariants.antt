use Rattle.std.proofs.Common.{◌≡◌}
use Rattle.cse_value.specs.Shape.{shape_lists}
use Rattle.cse_code_typing.specs.Code.{start_of}
use Rattle.cse_verify.specs.Measured.{AreMeasured}
use Rattle.cse_verify.proofs.routines.check_routines.Given as goal

-- the routines before are typed and bounded
abbrev pub invariant-routines : goal.invariant-routines
invariant-routines g l = record {
  start_is : l.start ≡ start_of l.program.lists.routines l.routine-index;
  number_is : l.number ≡ l.routine-index;
  measured : AreMeasured (shape_lists l.shape) l.program l.routine-index l.bounds.items l.frames.items l.cells.items;
}
