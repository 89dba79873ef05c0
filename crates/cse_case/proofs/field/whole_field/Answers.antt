use Rattle.std.proofs.Common.{arith}
use Rattle.cse_case.specs.Bytes.{beside_lent}
use Rattle.cse_case.proofs.BytesLaws.{length-columns_by}
use Rattle.cse_case.specs.Bytes.{columns_lent}
use Rattle.cse_case.proofs.FieldLaws.{whole_behind}
use Rattle.cse_case.proofs.field.whole_field.Goals as goal

pub returns-clause-columns : goal.returns-clause-columns
returns-clause-columns c = whole_behind c.args.item.now (columns_lent c.args.columns) c.args.first

pub overflow_add-result : goal.overflow_add-result
overflow_add-result c = omega (arith, c.requires.whole, length-columns_by c.args.columns.bytes.now (beside_lent c.args.columns), c.ranges.columns)
