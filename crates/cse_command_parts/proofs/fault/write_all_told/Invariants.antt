use Rattle.std.proofs.Common.{◌≡◌, take}
use Rattle.std.specs.List.{flat_map}
use Rattle.cse_value.specs.Device.{Appends}
use Rattle.cse_command_parts.specs.FaultLine.{told}
use Rattle.cse_command_parts.proofs.fault.write_all_told.Given as goal

-- the words so far
abbrev pub invariant-loop-part : goal.invariant-loop-part
invariant-loop-part g l = record {
  bytes : Appends (g.W.Output.taken l.fn.out) (g.W.Output.taken l.out) (flat_map (λ part. told part.0.now part.1) (take l.part-index l.parts));
  sound : g.W.Output.has_failed l.out ≡ g.W.Output.has_failed l.fn.out;
}
