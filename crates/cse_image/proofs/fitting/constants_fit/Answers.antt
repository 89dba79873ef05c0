use Rattle.std.proofs.Common.{refl}
use Rattle.std.specs.Prelude.{FitsSigned}
use Rattle.std.specs.Int.{w64}
use Rattle.cse_image_parts.proofs.Places.{section_decided}
use Rattle.cse_image.proofs.fitting.constants_fit.Goals as goal

pub returns : goal.returns
returns c = section_decided 65536 (FitsSigned w64) c.args.constants.now _ c.read_numbers.ensures refl
