use Rattle.std.proofs.Common.{ℕ, ◌-◌, ◌<◌, ◌≤◌}
use Rattle.cse_office.specs.Changes.{IsSameByte}
use Rattle.cse_office.proofs.part.same_sixteens.Given as goal

abbrev pub invariant-sixteens : goal.invariant-sixteens
invariant-sixteens l = record {
  fits : l.place ≤ l.len;
  same : (p : ℕ) → p < l.place → IsSameByte l.before l.after p;
}

abbrev pub decreases-sixteens : goal.decreases-sixteens
decreases-sixteens l = l.len - l.place
