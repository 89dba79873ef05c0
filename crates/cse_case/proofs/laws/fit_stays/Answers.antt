use Rattle.cse_case.proofs.SetLaws.{stay-fit}
use Rattle.cse_case.proofs.laws.fit_stays.Goals as goal

pub returns : goal.returns
returns c = stay-fit
