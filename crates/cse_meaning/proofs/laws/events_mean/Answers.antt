use Rattle.cse_steps.proofs.WholeRuns.{composed}
use Rattle.cse_meaning.proofs.Events.{all_mean}
use Rattle.cse_meaning.proofs.laws.events_mean.Goals as goal

pub returns : goal.returns
returns c = all_mean composed
