use Rattle.std.proofs.Common.{◌≤◌, ◌-◌, length, take}
use Rattle.std.specs.Str.{IsAscii}
use Rattle.cse_case.proofs.beyond.ascii_front.Given as goal

abbrev pub invariant-eights : goal.invariant-eights
invariant-eights l = record {
  fits : l.at ≤ length l.text;
  ascii : IsAscii (take l.at l.text);
}

abbrev pub decreases-eights : goal.decreases-eights
decreases-eights l = length l.text - l.at
