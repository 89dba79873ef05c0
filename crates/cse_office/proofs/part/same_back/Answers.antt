use Rattle.std.proofs.Common.{◌≡◌, ◌-◌, arith, inl, inr, subst}
use Rattle.std.proofs.lemmas.Bool.{cases_lt}
use Rattle.cse_office.specs.Changes.{IsSameByte}
use Rattle.cse_office.proofs.part.same_back.Goals as goal

pub bytes-preserved : goal.bytes-preserved
bytes-preserved c = record {
  fits = omega (arith, c.bytes.invariant.fits);
  same = λ p from low. elim (cases_lt p c.bytes.end) [
    | inl h ↦
        let said = c.is_same_byte.ensures in
        let is = c.if-not-is_same_byte.false in
        let here : c.bytes.end - 1 ≡ p = omega (arith, c.bytes-test.true) in
        subst (IsSameByte c.args.before.now c.args.after.now) here (record { within = said.within is; within_after = said.within_after is; ascii = said.ascii is; same = said.same is })
    | inr h ↦ c.bytes.invariant.same p h low
  ];
}
