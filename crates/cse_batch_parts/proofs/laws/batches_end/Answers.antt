use Rattle.cse_batch_parts.proofs.BoundLaws.{batches_end as law}
use Rattle.cse_batch_parts.proofs.laws.batches_end.Goals as goal

pub returns : goal.returns
returns g c = law c.args.verified.now c.event_ends.ensures c.case_keeps_to_bound.ensures
