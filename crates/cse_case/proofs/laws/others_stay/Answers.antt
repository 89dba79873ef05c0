use Rattle.cse_case.proofs.SetLaws.{stay-others}
use Rattle.cse_case.proofs.laws.others_stay.Goals as goal

pub returns : goal.returns
returns c = stay-others
