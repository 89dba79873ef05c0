use Rattle.std.proofs.Common.{arith}
use Rattle.cse_image.specs.View.{code_in}
use Rattle.cse_image.proofs.Views.{code_len}
use Rattle.cse_image.proofs.view.stored_count.Goals as goal

pub returns : goal.returns
returns c = omega (arith, code_len c.args.version (code_in c.args.version c.args.bytes.now) c.args.bytes.now c.requires)
