use Rattle.std.proofs.Common.{◌≡◌, ◌<◌, ◌≤◌, ℕ, get_or, cond, eqb}
use Rattle.cse_case.proofs.fill.put_plain.Given as goal

abbrev pub invariant-bytes : goal.invariant-bytes
invariant-bytes l = record {
  same : (k : ℕ) → k < l.i → get_or l.columns k 0 ≡ get_or l.text k 0;
  low : (k : ℕ) → k < l.i → cond (eqb (get_or l.text k 0) 10) 128 (get_or l.text k 0) ≤ l.bits;
}
