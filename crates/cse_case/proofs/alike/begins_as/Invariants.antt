use Rattle.std.proofs.Common.{◌≡◌, ◌-◌, ◌≤◌, take, length}
use Rattle.cse_case.proofs.alike.begins_as.Given as goal

abbrev pub invariant-fours : goal.invariant-fours
invariant-fours l = record {
  fits : l.at ≤ length l.others;
  same : take l.at l.bytes ≡ take l.at l.others;
}

abbrev pub decreases-fours : goal.decreases-fours
decreases-fours l = length l.others - l.at

abbrev pub invariant-bytes : goal.invariant-bytes
invariant-bytes l = take l.i l.bytes ≡ take l.i l.others
