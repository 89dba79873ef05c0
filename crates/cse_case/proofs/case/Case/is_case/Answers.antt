use Rattle.std.proofs.Common.{ap, ◌∙◌, length, nat_lt, map}
use Rattle.cse_dict.specs.Dictionary.{shape_of}
use Rattle.cse_case.specs.Seen.{is_case, unseen_of}
use Rattle.cse_case.specs.Case.{CaseText, records_of, types_of}
use Rattle.cse_case.specs.declared.run.Lines.{Lines}
use Rattle.cse_case.specs.declared.seen.Table.{Table}
use Rattle.cse_case.proofs.CaseLaws.{is_case_by_count}
use Rattle.cse_case.proofs.case.Case.is_case.Goals as goal

pub returns : goal.returns
returns c =
    let v = c.self.inside in
    ap (λ n. nat_lt n c.len-2.result) (c.len.ensures ∙ (ap (λ (t : Table). t.unseen.len) c.deref.ensures ∙ (v.table.value.unseen.ok.0 ∙ ap length c.self.invariant.unseen_are)))
    ∙ (ap (nat_lt (length (unseen_of (shape_of v.items).records v.first_line (map (λ l. l.record_number) v.kept.value.lines.items)))) (c.len-2.ensures ∙ (ap (λ (k : Lines). k.lines.len) c.deref-2.ensures ∙ v.kept.value.lines.ok.0))
    ∙ (is_case_by_count (shape_of v.items).records v.first_line v.kept.value.columns v.kept.value.lines.items ∙ ap (λ (x : CaseText). is_case (records_of x) (types_of x.run.lines)) c.self.view_is))
