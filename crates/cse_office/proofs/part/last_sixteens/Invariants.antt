use Rattle.std.proofs.Common.{ℕ, ◌<◌, ◌≤◌, length}
use Rattle.cse_office.specs.Changes.{IsSameByte}
use Rattle.cse_office.proofs.part.last_sixteens.Given as goal

abbrev pub invariant-sixteens : goal.invariant-sixteens
invariant-sixteens l = record {
  fits : l.end ≤ length l.before;
  same : (p : ℕ) → l.end ≤ p → p < length l.before → IsSameByte l.before l.after p;
}

abbrev pub decreases-sixteens : goal.decreases-sixteens
decreases-sixteens l = l.end
