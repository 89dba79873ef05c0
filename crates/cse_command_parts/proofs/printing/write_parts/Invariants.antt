use Rattle.std.proofs.Common.{◌≡◌, take}
use Rattle.std.specs.List.{flat_map}
use Rattle.cse_value.specs.Device.{Appends}
use Rattle.cse_command_parts.proofs.printing.write_parts.Given as goal

-- the parts so far
abbrev pub invariant-loop-part : goal.invariant-loop-part
invariant-loop-part g l = record {
  bytes : Appends (g.W.Output.taken l.fn.out) (g.W.Output.taken l.out) (flat_map (λ part. part.now) (take l.part-index l.parts));
  sound : g.W.Output.has_failed l.out ≡ g.W.Output.has_failed l.fn.out;
}
