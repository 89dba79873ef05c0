use Rattle.cse_image_parts.proofs.UpgradeLaws.{own_place}
use Rattle.cse_verify.proofs.laws.limits_are_their_own.Goals as goal

pub returns : goal.returns
returns c = λ x b some small. own_place 65536 b small
