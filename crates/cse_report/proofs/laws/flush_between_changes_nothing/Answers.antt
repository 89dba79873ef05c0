use Rattle.cse_report.proofs.ToldLaws.{flushes_between}
use Rattle.cse_report.proofs.laws.flush_between_changes_nothing.Goals as goal

pub returns : goal.returns
returns c = flushes_between
