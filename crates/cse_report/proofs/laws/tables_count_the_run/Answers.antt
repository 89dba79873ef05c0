use Rattle.cse_report.proofs.FrequencyLaws.{counts_the_run}
use Rattle.cse_report.proofs.laws.tables_count_the_run.Goals as goal

pub returns : goal.returns
returns c = counts_the_run
