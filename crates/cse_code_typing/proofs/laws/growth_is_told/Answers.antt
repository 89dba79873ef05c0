use Rattle.cse_code_typing.proofs.GrowthLaws.{growth_told}
use Rattle.cse_code_typing.proofs.laws.growth_is_told.Goals as goal

pub returns : goal.returns
returns c = growth_told
