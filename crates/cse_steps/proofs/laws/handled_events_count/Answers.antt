use Rattle.cse_steps.proofs.Outcomes.{handled_count}
use Rattle.cse_steps.proofs.laws.handled_events_count.Goals as goal

pub returns : goal.returns
returns c = handled_count
