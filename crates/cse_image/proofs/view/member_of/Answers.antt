use Rattle.std.proofs.Common.{arith}
use Rattle.cse_image.specs.View.{code_in}
use Rattle.cse_image.proofs.Views.{program_length, program_at}
use Rattle.cse_image.proofs.view.member_of.Goals as goal

pub stored_at-requires-clause-within : goal.stored_at-requires-clause-within
stored_at-requires-clause-within c = omega (arith, c.requires.within, program_length c.args.version (code_in c.args.version c.args.bytes.now))

pub returns : goal.returns
returns c = rw c.as_program.ensures (program_at c.args.version (code_in c.args.version c.args.bytes.now) c.args.i c.stored_at.result c.stored_at.ensures)
