use Rattle.cse_command_parts.specs.Words.{program}
use Rattle.cse_command_parts.proofs.words.program_words.Goals as goal

pub returns : goal.returns
unfolding program
returns c = c.commands_of.ensures
