use Rattle.std.proofs.Common.{◌≡◌, ◌-◌, ◌≤◌, take, length}
use Rattle.std.specs.Str.{IsAscii}
use Rattle.cse_case.proofs.same.by_fours.Given as goal

abbrev pub invariant-fours : goal.invariant-fours
invariant-fours l = record {
  fits : l.at ≤ length l.a;
  same : take l.at l.a ≡ take l.at l.b;
  ascii : IsAscii (take l.at l.a);
}

abbrev pub decreases-fours : goal.decreases-fours
decreases-fours l = length l.a - l.at
