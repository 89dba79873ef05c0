use Rattle.std.proofs.Common.{◌≡◌, ◌<◌, length, take, drop, ap, get_or, sym, ◌∙◌, arith, subst}
use Rattle.std.proofs.lemmas.List.{length-map}
use Rattle.cse_case.specs.Laid.{IsLaid, laid_line}
use Rattle.cse_case.specs.Columns.{LineText}
use Rattle.cse_case.specs.Run.{line_at}
use Rattle.cse_case.specs.Lines.{columns_kept, lines_in}
use Rattle.cse_case.proofs.LaidLaws.{first_line_at, laid_first, laid_within}
use Rattle.cse_case.proofs.run.Run.first_columns.Goals as goal

pub part-requires : goal.part-requires
part-requires c =
    let kept = c.in-Some.kept.value in
    let columns = columns_kept c.self.inside.lines in
    let here : columns ≡ kept.columns = ap columns_kept c.in-Some.is in
    let is : lines_in c.self.inside.lines ≡ kept.lines.items = ap lines_in c.in-Some.is in
    let len : length c.args.self.now.lines ≡ length kept.lines.items = ap (λ r. length r.lines) (sym c.self.view_is) ∙ (length-map (lines_in c.self.inside.lines) (laid_line columns) ∙ ap length is) in
    let line = c.index-line.result.now in
    let laid : IsLaid 0 kept.columns kept.lines.items = subst (λ cs. IsLaid 0 cs kept.lines.items) here (subst (IsLaid 0 columns) is c.self.invariant.laid) in
    omega (arith, ap length (c.columns.ensures ∙ ap (λ v. v.columns) c.deref-2.ensures), laid_within 0 kept.columns kept.lines.items 0 line laid (omega (arith, c.requires, len)) (c.index-line.ensures ∙ ap (λ v. get_or v.lines.items 0 line) c.deref.ensures))

pub returns : goal.returns
returns c =
    let kept = c.in-Some.kept.value in
    let columns = columns_kept c.self.inside.lines in
    let lines = lines_in c.self.inside.lines in
    let here : columns ≡ kept.columns = ap columns_kept c.in-Some.is in
    let is : lines ≡ kept.lines.items = ap lines_in c.in-Some.is in
    let some : 0 < length lines = omega (arith, c.requires, ap (λ r. length r.lines) (sym c.self.view_is) ∙ length-map lines (laid_line columns)) in
    let line = c.index-line.result.now in
    let own : line ≡ get_or lines 0 line = c.index-line.ensures ∙ ap (λ v. get_or v.lines.items 0 line) c.deref.ensures ∙ ap (λ ls. get_or ls 0 line) (sym is) in
    c.part.ensures ∙ ap (take line.width) (c.columns.ensures ∙ ap (λ v. v.columns) c.deref-2.ensures ∙ sym here)
    ∙ ap (λ k. take line.width (drop k columns)) (sym (laid_first columns lines line c.self.invariant.laid some own))
    ∙ ap (λ (l : LineText). l.columns) (first_line_at columns lines line some own)
    ∙ ap (λ r. (line_at r 0).columns) c.self.view_is
