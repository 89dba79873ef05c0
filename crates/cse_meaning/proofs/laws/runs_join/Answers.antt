use Rattle.cse_steps.proofs.WholeRuns.{composed}
use Rattle.cse_meaning.proofs.Going.{joined}
use Rattle.cse_meaning.proofs.laws.runs_join.Goals as goal

pub returns : goal.returns
returns c = joined composed
