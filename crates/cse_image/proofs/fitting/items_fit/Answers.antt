use Rattle.std.proofs.Common.{refl}
use Rattle.cse_image.specs.Spelling.{ItemFits}
use Rattle.cse_image_parts.proofs.Places.{section_decided}
use Rattle.cse_image.proofs.fitting.items_fit.Goals as goal

pub returns : goal.returns
returns c = section_decided 10000 ItemFits c.args.items.now _ c.read_items.ensures refl
