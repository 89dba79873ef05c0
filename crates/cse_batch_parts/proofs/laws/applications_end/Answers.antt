use Rattle.cse_batch_parts.proofs.EndLaws.{applications_end as law}
use Rattle.cse_batch_parts.proofs.laws.applications_end.Goals as goal

pub returns : goal.returns
returns g c = law c.args.verified.now c.event_ends.ensures
