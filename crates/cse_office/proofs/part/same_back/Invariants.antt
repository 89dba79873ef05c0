use Rattle.std.proofs.Common.{ℕ, ◌<◌, ◌≤◌, length}
use Rattle.cse_office.specs.Changes.{IsSameByte}
use Rattle.cse_office.proofs.part.same_back.Given as goal

abbrev pub invariant-bytes : goal.invariant-bytes
invariant-bytes l = record {
  fits : l.end ≤ length l.before;
  same : (p : ℕ) → l.end ≤ p → p < length l.before → IsSameByte l.before l.after p;
}

abbrev pub decreases-bytes : goal.decreases-bytes
decreases-bytes l = l.end
