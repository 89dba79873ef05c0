use Rattle.cse_verify.proofs.MeaningLaws.{upgrade_same}
use Rattle.cse_verify.proofs.laws.upgrade_means_the_same.Goals as goal

pub returns : goal.returns
returns c = upgrade_same
