use Rattle.cse_steps.proofs.WholeRuns.{composed}
use Rattle.cse_meaning.proofs.Assigned.{decided}
use Rattle.cse_meaning.proofs.laws.conditions_go.Goals as goal

pub returns : goal.returns
returns c = decided composed
