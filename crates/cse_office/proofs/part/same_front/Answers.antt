use Rattle.std.proofs.Common.{◌≡◌, arith, inl, inr, subst, sym}
use Rattle.std.proofs.lemmas.Bool.{cases_lt}
use Rattle.cse_office.specs.Changes.{IsSameByte}
use Rattle.cse_office.proofs.part.same_front.Goals as goal

pub bytes-preserved : goal.bytes-preserved
bytes-preserved c p low = elim (cases_lt p c.bytes.place) [
  | inl h ↦ c.bytes.invariant p h
  | inr h ↦
      let said = c.is_same_byte.ensures in
      let is = c.if-not-is_same_byte.false in
      let here : c.bytes.place ≡ p = omega arith in
      subst (IsSameByte c.args.before.now c.args.after.now) here (record { within = said.within is; within_after = said.within_after is; ascii = said.ascii is; same = said.same is })
]
