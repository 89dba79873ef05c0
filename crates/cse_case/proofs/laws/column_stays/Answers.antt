use Rattle.cse_case.proofs.SetLaws.{stay-columns}
use Rattle.cse_case.proofs.laws.column_stays.Goals as goal

pub returns : goal.returns
returns c = stay-columns
