use Rattle.cse_steps.proofs.WholeRuns.{composed}
use Rattle.cse_meaning.proofs.Assigned.{assigned}
use Rattle.cse_meaning.proofs.laws.assignments_go.Goals as goal

pub returns : goal.returns
returns c = assigned composed
