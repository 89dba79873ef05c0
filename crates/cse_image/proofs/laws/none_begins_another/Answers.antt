use Rattle.cse_image.proofs.Whole.{begins_none}
use Rattle.cse_image.proofs.laws.none_begins_another.Goals as goal

pub returns : goal.returns
returns c = begins_none
