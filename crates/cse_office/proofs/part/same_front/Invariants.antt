use Rattle.std.proofs.Common.{ℕ, ◌-◌, ◌<◌}
use Rattle.cse_office.specs.Changes.{IsSameByte}
use Rattle.cse_office.proofs.part.same_front.Given as goal

abbrev pub invariant-bytes : goal.invariant-bytes
invariant-bytes l = (p : ℕ) → p < l.place → IsSameByte l.before l.after p

abbrev pub decreases-bytes : goal.decreases-bytes
decreases-bytes l = l.len - l.place
