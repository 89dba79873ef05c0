use Rattle.cse_meaning.proofs.Alone.{means_alone as law}
use Rattle.cse_meaning.proofs.programs.means_alone.Goals as goal

pub returns : goal.returns
returns c = law
