use Rattle.std.proofs.Common.{ap, sym, ◌∙◌}
use Rattle.cse_dict.specs.Dictionary.{shape_of}
use Rattle.cse_case.specs.Seen.{unseen_of}
use Rattle.cse_case.specs.Case.{unseen_lines}
use Rattle.cse_case.specs.declared.seen.Table.{Table}
use Rattle.cse_case.proofs.CaseLaws.{types_laid}
use Rattle.cse_case.proofs.case.Case.unseen.Goals as goal

pub returns : goal.returns
returns c =
    let v = c.self.inside in
    c.deref-2.ensures.value ∙ (ap (λ (t : Table). t.unseen.items) c.deref.ensures ∙ (c.self.invariant.unseen_are ∙ (ap (unseen_of (shape_of v.items).records v.first_line) (sym (types_laid v.kept.value.columns v.kept.value.lines.items)) ∙ ap unseen_lines c.self.view_is)))
