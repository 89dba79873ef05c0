use Rattle.cse_case.specs.Same.{IsSameFront}
use Rattle.cse_case.proofs.same.told_from.Given as goal

abbrev pub invariant-bytes : goal.invariant-bytes
invariant-bytes l = IsSameFront l.a l.b l.i
