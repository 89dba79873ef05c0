use Rattle.std.proofs.Common.{sym, ◌∙◌}
use Rattle.cse_office.proofs.alike.is_like_at.Goals as goal

pub returns : goal.returns
returns c e = record {
  records = sym c.record.ensures ∙ (c.is_same_record.ensures.same c.if-not-is_same_record.false ∙ c.record-2.ensures);
  columns = sym c.columns.ensures ∙ (c.is_same.ensures e ∙ c.columns-2.ensures);
}
