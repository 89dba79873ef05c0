use Rattle.std.proofs.Common.{◌≡◌, ◌≤◌, ◌-◌, length, take}
use Rattle.cse_value.specs.Device.{Appends}
use Rattle.cse_value.proofs.device.write_all.Given as goal

abbrev pub invariant-loop-at : goal.invariant-loop-at
invariant-loop-at g l = record {
  in_range : l.at ≤ length l.bytes;
  bytes : Appends (g.W.Output.taken l.fn.out) (g.W.Output.taken l.out) (take l.at l.bytes);
  sound : g.W.Output.has_failed l.out ≡ g.W.Output.has_failed l.fn.out;
}

abbrev pub decreases-loop-at : goal.decreases-loop-at
decreases-loop-at g l = length l.bytes - l.at
