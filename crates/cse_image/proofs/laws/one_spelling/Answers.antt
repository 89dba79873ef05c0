use Rattle.cse_image.proofs.Whole.{spelled_once}
use Rattle.cse_image.proofs.laws.one_spelling.Goals as goal

pub returns : goal.returns
returns c = spelled_once
