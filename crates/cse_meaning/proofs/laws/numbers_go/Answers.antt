use Rattle.cse_steps.proofs.WholeRuns.{composed}
use Rattle.cse_meaning.proofs.Simulation.{each_goes}
use Rattle.cse_meaning.proofs.laws.numbers_go.Goals as goal

pub returns : goal.returns
returns c = each_goes composed
