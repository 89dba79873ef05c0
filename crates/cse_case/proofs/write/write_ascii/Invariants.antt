use Rattle.std.proofs.Common.{◌≡◌, ◌<◌, ◌≤◌, ℕ, get_or}
use Rattle.cse_case.proofs.write.write_ascii.Given as goal

abbrev pub invariant-columns : goal.invariant-columns
invariant-columns l = record {
  same : (k : ℕ) → k < l.i → get_or l.bytes k 0 ≡ get_or l.ascii k 0;
  low : (k : ℕ) → k < l.i → get_or l.ascii k 0 ≤ l.bits;
}
