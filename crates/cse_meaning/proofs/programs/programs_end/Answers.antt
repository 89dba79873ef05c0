use Rattle.cse_meaning.proofs.Alone.{programs_end as law}
use Rattle.cse_meaning.proofs.programs.programs_end.Goals as goal

pub returns : goal.returns
returns c = law
