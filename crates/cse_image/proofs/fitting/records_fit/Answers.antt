use Rattle.std.proofs.Common.{refl}
use Rattle.cse_image.specs.Spelling.{RecordFits}
use Rattle.cse_image_parts.proofs.Places.{section_decided}
use Rattle.cse_image.proofs.fitting.records_fit.Goals as goal

pub returns : goal.returns
returns c = section_decided 200 RecordFits c.args.records.now _ c.read_records.ensures refl
