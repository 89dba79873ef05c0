use Rattle.cse_image_parts.proofs.Algebra.{number_laws}
use Rattle.cse_image_parts.proofs.laws.number_read_again.Goals as goal

pub returns : goal.returns
returns c = λ width n rest fits. (number_laws width).again n rest fits
