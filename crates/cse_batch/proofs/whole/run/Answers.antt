use Rattle.cse_batch_parts.proofs.CloseLaws.{stops_at_once}
use Rattle.cse_batch.proofs.whole.run.Goals as goal

pub returns-in_default-clause-err : goal.returns-in_default-clause-err
returns-in_default-clause-err g c = stops_at_once c.args.verified.now c.args.store _ _ _
