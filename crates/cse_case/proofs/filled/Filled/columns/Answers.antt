use Rattle.std.proofs.Common.{◌∙◌, ap, take, length, arith}
use Rattle.cse_case.proofs.BytesLaws.{length-columns_by}
use Rattle.cse_case.proofs.filled.Filled.columns.Goals as goal

pub part-requires : goal.part-requires
part-requires c = omega (arith, c.self.invariant.0, ap length c.lent.ensures, length-columns_by c.self.inside.own.bytes.items c.self.inside.own.beside.items)

pub returns : goal.returns
returns c = c.part.ensures ∙ ap (take c.self.inside.len) c.lent.ensures ∙ c.self.view_is
