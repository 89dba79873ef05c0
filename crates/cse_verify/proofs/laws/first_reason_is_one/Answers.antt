use Rattle.cse_verify.proofs.FirstLaws.{one_reason}
use Rattle.cse_verify.proofs.laws.first_reason_is_one.Goals as goal

pub returns : goal.returns
returns c = one_reason
