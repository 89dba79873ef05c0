use Rattle.std.proofs.Common.{◌≡◌, ◌≤◌, ◌+◌, ◌-◌, drop, length, take}
use Rattle.std.specs.Str.{IsAscii}
use Rattle.cse_case.specs.Run.{with_columns}
use Rattle.cse_case.proofs.beyond.put_eights.Given as goal

abbrev pub invariant-eights : goal.invariant-eights
invariant-eights l = record {
  fits : l.at + l.count ≤ length l.text;
  ascii : IsAscii (take l.count (drop l.at l.text));
  bytes : l.bytes ≡ with_columns l.len (take l.count (drop l.at l.text)) l.initial.bytes;
}

abbrev pub decreases-eights : goal.decreases-eights
decreases-eights l = length l.text - l.count
