use Rattle.std.proofs.Common.{◌≡◌, ◌<◌, ap, sym, ◌∙◌, length, arith}
use Rattle.cse_dict.specs.Dictionary.{shape_of}
use Rattle.cse_case.specs.Seen.{occurrence_places}
use Rattle.cse_case.specs.Case.{CaseText, records_of, places_of}
use Rattle.cse_case.proofs.SeenLaws.{count_is}
use Rattle.cse_case.proofs.CaseLaws.{types_laid}
use Rattle.cse_case.proofs.OwnLaws.{span_in}
use Rattle.cse_case.proofs.case.Case.occurrences.Goals as goal

pub returns : goal.returns
unfolding places_of
returns c =
    let v = c.self.inside in
    let records = (shape_of v.items).records in
    let r = c.args.number in
    let size : length (records_of c.args.self.now) ≡ length records = ap (λ (x : CaseText). length (records_of x)) (sym c.self.view_is) in
    let within : r < length v.table.value.spans.items = omega (arith, c.requires, c.self.invariant.table.size) in
    count_is records v.kept.value.lines.items v.table.value.firsts.items v.table.value.spans.items r c.index-span.result.now c.self.invariant.table within (span_in _ _ c.deref.ensures _ _ c.index-span.ensures)
    ∙ (ap (λ ts. length (occurrence_places records r ts)) (sym (types_laid v.kept.value.columns v.kept.value.lines.items)) ∙ ap (λ (x : CaseText). length (places_of x r)) c.self.view_is)
