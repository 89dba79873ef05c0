use Rattle.cse_case.proofs.SetLaws.{reads-what-was-set}
use Rattle.cse_case.proofs.laws.reads_what_was_set.Goals as goal

pub returns : goal.returns
returns c = reads-what-was-set
