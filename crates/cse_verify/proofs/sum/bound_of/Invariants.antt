use Rattle.cse_verify.proofs.SumLaws.{IsAt}
use Rattle.cse_verify.proofs.sum.bound_of.Given as goal

-- the weights at the place, and the sum over the places before it
abbrev pub invariant-places : goal.invariant-places
invariant-places g l = IsAt l.bounds l.code l.place l.total l.weights
