use Rattle.std.proofs.Common.{arith}
use Rattle.cse_case.specs.Bytes.{beside_lent}
use Rattle.cse_case.proofs.BytesLaws.{length-columns_by}
use Rattle.cse_case.proofs.source.put_at.Goals as goal

pub overflow_add-end : goal.overflow_add-end
overflow_add-end c = omega (arith, c.requires, c.len.ensures, length-columns_by c.args.columns.bytes.now (beside_lent c.args.columns), c.ranges.columns, c.args.fields.now.small, c.args.fields.now.ok)
