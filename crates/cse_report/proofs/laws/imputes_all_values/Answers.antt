use Rattle.cse_report.proofs.ToldLaws.{imputes_all}
use Rattle.cse_report.proofs.laws.imputes_all_values.Goals as goal

pub returns : goal.returns
returns c = imputes_all
