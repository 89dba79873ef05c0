use Rattle.cse_case.proofs.SetLaws.{stay-occurrences}
use Rattle.cse_case.proofs.laws.occurrences_stay.Goals as goal

pub returns : goal.returns
returns c = stay-occurrences
