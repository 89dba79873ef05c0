use Rattle.std.proofs.Common.{◌≡◌}
use Rattle.cse_value.specs.Device.{Appends}
use Rattle.cse_command_parts.specs.Verdict.{routine_lines}
use Rattle.cse_command_parts.proofs.verdict.write_routines.Given as goal

-- the lines so far
abbrev pub invariant-routines : goal.invariant-routines
invariant-routines g l = record {
  bytes : Appends (g.W.Output.taken l.fn.out) (g.W.Output.taken l.out) (routine_lines l.verified.image l._head-index);
  sound : g.W.Output.has_failed l.out ≡ g.W.Output.has_failed l.fn.out;
  routine_is : l.routine ≡ l._head-index;
}
