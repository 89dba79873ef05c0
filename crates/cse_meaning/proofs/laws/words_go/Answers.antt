use Rattle.cse_steps.proofs.WholeRuns.{composed}
use Rattle.cse_meaning.proofs.Simulation.{all_words_go}
use Rattle.cse_meaning.proofs.laws.words_go.Goals as goal

pub returns : goal.returns
returns c = all_words_go composed
