use Rattle.std.proofs.Common.{arith, inl, inr, length}
use Rattle.std.proofs.lemmas.Bool.{cases_lt}
use Rattle.cse_office.proofs.part.end_of.Goals as goal

pub returns-then-before-after : goal.returns-then-before-after
returns-then-before-after c p from = elim (cases_lt p (length c.args.before.now)) [
  | inl h ↦ inl (c.same_back.ensures p from h)
  | inr h ↦ inr (h, omega arith)
]

pub returns : goal.returns
returns c p from = inr (omega arith, omega arith)
