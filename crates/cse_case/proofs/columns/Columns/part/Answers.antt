use Rattle.std.proofs.Common.{◌∙◌, ap, arith, take, drop}
use Rattle.cse_case.specs.Bytes.{beside_lent, columns_by}
use Rattle.cse_case.proofs.BytesLaws.{further_beside, length-columns_by, part-columns_by}
use Rattle.cse_case.proofs.columns.Columns.part.Goals as goal

pub piece-requires : goal.piece-requires
piece-requires c = omega (arith, c.requires, length-columns_by c.args.self.bytes.now (beside_lent c.args.self))

pub returns : goal.returns
returns c =
    let lent = c.args.self in
    let first = c.args.first in
    let beside = further_beside lent.first first c.saturating_add.result lent.beside.now (omega (arith, c.ranges.self)) c.saturating_add.ensures in
    ap (λ bs. columns_by bs (drop c.saturating_add.result lent.beside.now)) c.piece.ensures
    ∙ ap (columns_by (take c.args.len (drop first lent.bytes.now))) beside
    ∙ part-columns_by first c.args.len lent.bytes.now (beside_lent lent)
