use Rattle.std.proofs.Common.{ap}
use Rattle.cse_command_parts.specs.declared.outcome.Stop.TheVariants.{Refused}
use Rattle.cse_command_images.proofs.compile_image.image_of.Goals as goal

pub returns-in-Err-clause-refused : goal.returns-in-Err-clause-refused
returns-in-Err-clause-refused g = record { fault = g.in-Err.fault; tells = ap Refused g.in_text.ensures; is_fault = g.in-Err.ensures.fault; of_sound = g.in-Err.ensures.sound }
