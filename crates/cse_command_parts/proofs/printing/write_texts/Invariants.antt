use Rattle.std.proofs.Common.{◌≡◌, ◌≤◌, ◌-◌, length, take}
use Rattle.cse_value.specs.Device.{Appends}
use Rattle.cse_command_parts.specs.Printed.{text_lines}
use Rattle.cse_command_parts.proofs.printing.write_texts.Given as goal

-- the lines so far
abbrev pub invariant-texts : goal.invariant-texts
invariant-texts g l = record {
  bytes : Appends (g.W.Output.taken l.fn.out) (g.W.Output.taken l.out) (text_lines (take l.number l.listing.texts));
  sound : g.W.Output.has_failed l.out ≡ g.W.Output.has_failed l.fn.out;
  within : l.number ≤ length l.listing.texts;
}

abbrev pub decreases-texts : goal.decreases-texts
decreases-texts g l = length l.listing.texts - l.number
