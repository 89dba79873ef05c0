use Rattle.std.proofs.Common.{◌≡◌, length, ap, get_or, sym, ◌∙◌, arith, subst}
use Rattle.std.proofs.lemmas.List.{length-map}
use Rattle.cse_case.specs.Laid.{IsLaid, laid_line}
use Rattle.cse_case.specs.Lines.{columns_kept, lines_in}
use Rattle.cse_case.proofs.LaidLaws.{laid_within}
use Rattle.cse_case.proofs.run.Run.columns.Goals as goal

pub part-requires : goal.part-requires
part-requires c =
    let kept = c.in-Some.kept.value in
    let columns = columns_kept c.self.inside.lines in
    let here : columns ≡ kept.columns = ap columns_kept c.in-Some.is in
    let is : lines_in c.self.inside.lines ≡ kept.lines.items = ap lines_in c.in-Some.is in
    let len : length c.args.self.now.lines ≡ length kept.lines.items = ap (λ r. length r.lines) (sym c.self.view_is) ∙ (length-map (lines_in c.self.inside.lines) (laid_line columns) ∙ ap length is) in
    let line = c.index-line.result.now in
    let laid : IsLaid 0 kept.columns kept.lines.items = subst (λ cs. IsLaid 0 cs kept.lines.items) here (subst (IsLaid 0 columns) is c.self.invariant.laid) in
    omega (arith, ap length (c.columns.ensures ∙ ap (λ v. v.columns) c.deref-2.ensures), laid_within 0 kept.columns kept.lines.items c.args.i line laid (omega (arith, c.requires, len)) (c.index-line.ensures ∙ ap (λ v. get_or v.lines.items c.args.i line) c.deref.ensures))
