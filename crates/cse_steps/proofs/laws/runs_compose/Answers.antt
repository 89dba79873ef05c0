use Rattle.cse_steps.proofs.WholeRuns.{composed}
use Rattle.cse_steps.proofs.laws.runs_compose.Goals as goal

pub returns : goal.returns
returns c = composed
