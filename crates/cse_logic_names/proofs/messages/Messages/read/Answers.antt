use Rattle.cse_sections.specs.Sections.{lines_of}
use Rattle.cse_logic_names.proofs.PlainTexts.{are_texts}
use Rattle.cse_logic_names.proofs.messages.Messages.read.Goals as goal

pub kept-requires : goal.kept-requires
kept-requires c = are_texts c.in-Ok.found (lines_of c.after_mark.result.now) c.in-Ok.ensures.1
