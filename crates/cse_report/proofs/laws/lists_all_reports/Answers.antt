use Rattle.cse_report.proofs.ToldLaws.{lists_all}
use Rattle.cse_report.proofs.laws.lists_all_reports.Goals as goal

pub returns : goal.returns
returns c = lists_all
