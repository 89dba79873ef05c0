use Rattle.cse_meaning.proofs.SmallSizes.{routine_short}
use Rattle.cse_meaning.proofs.SmallEntries.{routine_entries}
use Rattle.cse_meaning.proofs.small.code_is_small.Goals as goal

pub returns-clause-code : goal.returns-clause-code
returns-clause-code c = routine_short

pub returns-clause-entries : goal.returns-clause-entries
returns-clause-entries c = routine_entries
