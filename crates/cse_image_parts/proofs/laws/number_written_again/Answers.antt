use Rattle.cse_image_parts.proofs.Algebra.{number_laws}
use Rattle.cse_image_parts.proofs.laws.number_written_again.Goals as goal

pub returns : goal.returns
returns c = λ width n bytes rest fits e. ((number_laws width).takes bytes (n, rest) fits e).0.parts
