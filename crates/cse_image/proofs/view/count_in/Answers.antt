use Rattle.std.proofs.Common.{◌∙◌, sym}
use Rattle.cse_image.specs.View.{code_in}
use Rattle.cse_image.proofs.Views.{program_length}
use Rattle.cse_image.proofs.view.count_in.Goals as goal

pub returns : goal.returns
returns c = c.stored_count.ensures ∙ sym (program_length c.args.version (code_in c.args.version c.args.bytes.now))
