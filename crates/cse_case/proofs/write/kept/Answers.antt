use Rattle.std.proofs.Common.{◌<◌, ◌-◌, length, arith, ◌∙◌, sym}
use Rattle.std.proofs.lemmas.Grind.{common_steps}
use Rattle.cse_case.specs.Bytes.{columns_lent}
use Rattle.cse_case.proofs.WriteLaws.{Trimmed-less, kept_at}
use Rattle.cse_case.proofs.write.kept.Goals as goal
use Rattle.cse_case.proofs.write.kept.Goals.{then-blanks-test+else-at-eq32, else-blanks-test}

pub blanks-preserved : goal.blanks-preserved
blanks-preserved c =
    let within : c.blanks.n - 1 < length (columns_lent c.args.columns) = omega (arith, c.blanks.invariant.high) in
    Trimmed-less _ _ _ c.blanks-test.true (sym c.at.ensures ∙ c.if-at-eq32.true) c.blanks.invariant

pub returns : goal.returns
returns c = c.part.ensures ∙ kept_at (columns_lent c.args.columns) c.args.len c.blanks.n c.blanks.invariant (λ low. elim c.blanks-test.branch [
  | then-blanks-test+else-at-eq32 w ↦
      let within : c.blanks.n - 1 < length (columns_lent c.args.columns) = omega (arith, c.blanks.invariant.high) in
      rw (← w.at.ensures) (grind (arith, common_steps, w.if-at-eq32.false))
  | else-blanks-test w ↦ absurd (omega (arith, w.blanks-test.false))
])
