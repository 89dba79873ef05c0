use Rattle.cse_batch_parts.proofs.BatchLaws.{fronts_stay as law}
use Rattle.cse_batch_parts.proofs.laws.fronts_stay.Goals as goal

pub returns : goal.returns
returns c = law
