use Rattle.std.proofs.Common.{arith}
use Rattle.std.proofs.lemmas.List.Sums.{fold-append}
use Rattle.cse_dict.specs.Faults.{first_faults}
use Rattle.cse_dict.proofs.whole.check_read.Goals as goal

pub returns : goal.returns
unfolding first_faults
returns c = grind (arith, fold-append)
