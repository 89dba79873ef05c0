use Rattle.std.proofs.Common.{◌≡◌, length, ap, get_or, sym, ◌∙◌, arith}
use Rattle.std.proofs.lemmas.List.{length-map}
use Rattle.cse_case.specs.Laid.{laid_line}
use Rattle.cse_case.proofs.LaidLaws.{laid_within}
use Rattle.cse_office.proofs.lines.RunLines.columns.Goals as goal

pub part-requires : goal.part-requires
part-requires c =
    let kept = c.self.inside.kept.value in
    let line = c.index-line.result.now in
    let len : length c.args.self.now ≡ length kept.lines.items = ap length (sym c.self.view_is) ∙ length-map kept.lines.items (laid_line kept.columns) in
    omega (arith, ap length (c.columns.ensures ∙ ap (λ v. v.columns) c.deref-2.ensures), laid_within 0 kept.columns kept.lines.items c.args.place line c.self.invariant (omega (arith, c.requires, len)) (c.index-line.ensures ∙ ap (λ v. get_or v.lines.items c.args.place line) c.deref.ensures))
