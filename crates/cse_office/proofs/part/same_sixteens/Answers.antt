use Rattle.std.proofs.Common.{arith, inl, inr}
use Rattle.std.proofs.lemmas.Bool.{cases_lt}
use Rattle.cse_office.proofs.part.same_sixteens.Goals as goal

pub sixteens-preserved : goal.sixteens-preserved
sixteens-preserved c = record {
  fits = omega (arith, c.sixteens-test.true);
  same = λ p low. elim (cases_lt p c.sixteens.place) [
    | inl h ↦ c.sixteens.invariant.same p h
    | inr h ↦ c.are_same_sixteen.ensures c.if-not-are_same_sixteen.false p (omega arith) (omega arith)
  ];
}
