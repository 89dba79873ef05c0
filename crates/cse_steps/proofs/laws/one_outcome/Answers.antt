use Rattle.cse_steps.proofs.Outcomes.{outcomes}
use Rattle.cse_steps.proofs.laws.one_outcome.Goals as goal

pub returns : goal.returns
returns c = outcomes
