use Rattle.std.proofs.Common.{refl}
use Rattle.cse_image_parts.specs.Image.{image_of}
use Rattle.cse_image.specs.Spelling.{spelling}
use Rattle.cse_compile.proofs.compiling.spelled.Goals as goal

pub returns-in-None-clause-room : goal.returns-in-None-clause-room
returns-in-None-clause-room c = λ is fits. c.in-None.ensures (spelling (image_of c.args.parts)) (record { fits = fits; bytes_are = refl })
