use Rattle.std.proofs.Common.{◌≡◌, ◌-◌, ap, get_or, ◌∙◌, arith, length, subst}
use Rattle.cse_case.specs.Laid.{IsLaid}
use Rattle.cse_case.specs.Lines.{columns_kept, lines_in}
use Rattle.cse_case.proofs.LaidLaws.{laid_within}
use Rattle.cse_case.proofs.run.Run.last.Goals as goal

pub part-requires : goal.part-requires
part-requires c =
    let kept = c.in-Some.kept.value in
    let columns = columns_kept c.self.inside.lines in
    let here : columns ≡ kept.columns = ap columns_kept c.in-Some.is in
    let is : lines_in c.self.inside.lines ≡ kept.lines.items = ap lines_in c.in-Some.is in
    let line = c.index-line.result.now in
    let at = c.len-len.result - 1 in
    let laid : IsLaid 0 kept.columns kept.lines.items = subst (λ cs. IsLaid 0 cs kept.lines.items) here (subst (IsLaid 0 columns) is c.self.invariant.laid) in
    omega (
      arith,
      ap length (c.columns.ensures ∙ ap (λ v. v.columns) c.deref-3.ensures),
      laid_within 0 kept.columns kept.lines.items at line laid
          (omega (arith, c.len-len.ensures, ap (λ v. length v.lines.items) c.deref.ensures, kept.lines.ok.0, c.if-len-eq0.false)) (c.index-line.ensures ∙ ap (λ v. get_or v.lines.items at line) c.deref-2.ensures),
    )
