use Rattle.std.proofs.Common.{◌≡◌, ◌-◌, ◌+◌, ◌<◌, ◌≤◌, ℕ, true, get_or, length}
use Rattle.cse_case.proofs.AlikeLaws.{Done, PlainAt}
use Rattle.cse_case.proofs.fill.put_sixteens.Given as goal

abbrev pub invariant-sixteens : goal.invariant-sixteens
invariant-sixteens l = record {
  all : l.last + 16 ≡ length l.text;
  low : l.at ≤ l.last + 15;
  len : length l.columns ≡ length l.text;
  same : (k : ℕ) → Done l.at l.last k → k < length l.text → get_or l.columns k 0 ≡ get_or l.text k 0;
  plain : l.is_plain ≡ true → (k : ℕ) → Done l.at l.last k → k < length l.text → PlainAt l.text k;
}

abbrev pub decreases-sixteens : goal.decreases-sixteens
decreases-sixteens l = l.last - l.at
