use Rattle.cse_steps.proofs.Outcomes.{compose}
use Rattle.cse_steps.proofs.laws.events_compose.Goals as goal

pub returns : goal.returns
returns c = compose
