use Rattle.std.proofs.Common.{refl}
use Rattle.cse_image.specs.Spelling.{SetFits}
use Rattle.cse_image_parts.proofs.Places.{section_decided}
use Rattle.cse_image.proofs.fitting.sets_fit.Goals as goal

pub returns : goal.returns
returns c = section_decided 10000 SetFits c.args.sets.now _ c.read_sets.ensures refl
