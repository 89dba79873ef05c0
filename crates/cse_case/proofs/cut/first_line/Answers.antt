use Rattle.std.proofs.Common.{◌≡◌, false, arith, refl, ◌∙◌, sym, []}
use Rattle.std.proofs.lemmas.Bool.{false≢true}
use Rattle.std.proofs.lemmas.Grind.{common_steps}
use Rattle.std.proofs.lemmas.List.{nil_from_length}
use Rattle.cse_case.specs.Line.{is_excessive}
use Rattle.cse_case.proofs.LineLaws.{none_found, lines_in-nil, lines_in-none, IsFirstLine-found, IsFirstLine-last}
use Rattle.cse_case.proofs.cut.first_line.Goals as goal
use Rattle.cse_case.proofs.cut.first_line.Goals.{then-ended, else-ended}

pub returns-then-is_empty-clause-none : goal.returns-then-is_empty-clause-none
returns-then-is_empty-clause-none c =
    let none : c.args.bytes.now ≡ [] = nil_from_length _ (grind (arith, common_steps)) in
    (rw none (lines_in-nil c.args.front c.args.ended), λ end. none)

pub returns-in-Some-clause-some : goal.returns-in-Some-clause-some
returns-in-Some-clause-some c = IsFirstLine-found _ _ _ _ c.in-Some.ensures.0 c.in-Some.ensures.1

pub returns-in-None-clause-some : goal.returns-in-None-clause-some
returns-in-None-clause-some c = IsFirstLine-last _ _ _ c.in-None.ensures (grind (arith, common_steps)) (elim c.if-ended.branch [ then-ended w ↦ rw w.if-ended.true refl | else-ended w ↦ grind (arith, common_steps, w.value-is, w.is_excessive.ensures) ])

pub returns-in-None-2-clause-none : goal.returns-in-None-2-clause-none
returns-in-None-2-clause-none c =
    elim c.if-ended.branch [
      | then-ended w ↦ absurd (false≢true (cc (w.value-is, c.if-is_excessive.false)))
      | else-ended w ↦
          let open' : c.args.ended ≡ false = w.if-ended.false in
          let short : is_excessive (c.args.front, c.args.bytes.now) ≡ false = cc (w.value-is, c.if-is_excessive.false, w.is_excessive.ensures) in
          (rw open' (lines_in-none _ _ c.in-None.ensures (grind (arith, common_steps)) short), λ end. absurd (false≢true (sym open' ∙ end)))
    ]

pub returns-in-None-2-clause-unended : goal.returns-in-None-2-clause-unended
returns-in-None-2-clause-unended c = none_found c.args.bytes.now c.in-None.ensures
