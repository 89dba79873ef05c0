use Rattle.cse_meaning.proofs.Totals.{all_code_short, all_entries_few}
use Rattle.cse_meaning.proofs.small.source_is_small.Goals as goal

pub returns-clause-code : goal.returns-clause-code
returns-clause-code c = all_code_short

pub returns-clause-entries : goal.returns-clause-entries
returns-clause-entries c = all_entries_few
