use Rattle.std.proofs.Common.{arith, inl, inr}
use Rattle.std.proofs.lemmas.Bool.{leb-true}
use Rattle.cse_office.proofs.part.is_outside.Goals as goal

pub returns-then-first-item : goal.returns-then-first-item
returns-then-first-item c e = inl (omega arith)

pub returns : goal.returns
returns c e = inr (omega (arith, leb-true))
