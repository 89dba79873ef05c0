-- Bounds of numbers that are joined by their bits.
use Rattle.std.proofs.Common.{◌≡◌, ℕ, ◌+◌, ◌<◌, ◌≤◌, List, get_or, bit_or, inl, inr, arith}
use Rattle.std.proofs.lemmas.Bool.{cases_lt}
use Rattle.std.proofs.lemmas.Nat.{le_or_l, le_or_r}

-- a bound of the numbers so far, joined with the next number, is one of them and it
pub bit_or_bounds_more : (xs : List ℕ) (i bits x : ℕ) → x ≡ get_or xs i 0 → ((k : ℕ) → k < i → get_or xs k 0 ≤ bits) → (k : ℕ) → k < i + 1 → get_or xs k 0 ≤ bit_or bits x
bit_or_bounds_more xs i bits x at low k h = elim (cases_lt k i) [
  | inl below ↦ let before = low k below in omega (arith, le_or_l bits x)
  | inr above ↦ let same : k ≡ i = omega arith in rw (same, ← at) (le_or_r bits x)
]
