use Rattle.std.proofs.Common.{sym}
use Rattle.cse_case.specs.Bytes.{beside_lent}
use Rattle.cse_case.proofs.BytesLaws.{length-columns_by}
use Rattle.cse_case.proofs.columns.Columns.len.Goals as goal

pub returns : goal.returns
returns c = sym (length-columns_by c.args.self.bytes.now (beside_lent c.args.self))
