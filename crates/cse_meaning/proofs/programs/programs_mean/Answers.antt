use Rattle.cse_meaning.proofs.Alone.{programs_mean as law}
use Rattle.cse_meaning.proofs.programs.programs_mean.Goals as goal

pub returns : goal.returns
returns c = law
