use Rattle.cse_image_parts.proofs.Algebra.{signed_laws}
use Rattle.cse_image_parts.proofs.laws.signed_read_again.Goals as goal

pub returns : goal.returns
returns c = λ z rest fits. signed_laws.again z rest fits
