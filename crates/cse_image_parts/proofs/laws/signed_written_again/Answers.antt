use Rattle.cse_image_parts.proofs.Algebra.{signed_laws}
use Rattle.cse_image_parts.proofs.laws.signed_written_again.Goals as goal

pub returns : goal.returns
returns c = λ z bytes rest fits e. (signed_laws.takes bytes (z, rest) fits e).0.parts
