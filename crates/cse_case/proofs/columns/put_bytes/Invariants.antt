use Rattle.std.proofs.Common.{◌≡◌, ◌<◌, ◌≤◌, ℕ, get_or}
use Rattle.cse_case.proofs.columns.put_bytes.Given as goal

abbrev pub invariant-bytes : goal.invariant-bytes
invariant-bytes l = record {
  same : (k : ℕ) → k < l.i → get_or l.characters k 0 ≡ get_or l.bytes k 0;
  low : (k : ℕ) → k < l.i → get_or l.bytes k 0 ≤ l.bits;
  beyond : ((k : ℕ) → k < l.i → get_or l.bytes k 0 < 128) → l.bits < 128;
}
