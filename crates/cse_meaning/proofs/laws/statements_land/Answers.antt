use Rattle.cse_steps.proofs.WholeRuns.{composed}
use Rattle.cse_meaning.proofs.Statements.{all_land}
use Rattle.cse_meaning.proofs.laws.statements_land.Goals as goal

pub returns : goal.returns
returns c = all_land composed
