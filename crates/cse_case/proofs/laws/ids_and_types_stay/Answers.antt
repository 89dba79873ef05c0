use Rattle.cse_case.proofs.SetLaws.{stay-ids-and-types}
use Rattle.cse_case.proofs.laws.ids_and_types_stay.Goals as goal

pub returns : goal.returns
returns c = stay-ids-and-types
