use Rattle.cse_steps.proofs.WholeRuns.{composed}
use Rattle.cse_meaning.proofs.Functions.{all_follow}
use Rattle.cse_meaning.proofs.laws.functions_follow.Goals as goal

pub returns : goal.returns
returns c = all_follow composed
