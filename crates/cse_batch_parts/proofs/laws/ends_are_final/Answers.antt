use Rattle.cse_batch_parts.proofs.EventLaws.{ends_are_final as law}
use Rattle.cse_batch_parts.proofs.laws.ends_are_final.Goals as goal

pub returns : goal.returns
returns c = law
