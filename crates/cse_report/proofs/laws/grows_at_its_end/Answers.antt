use Rattle.cse_report.proofs.ToldLaws.{grows}
use Rattle.cse_report.proofs.laws.grows_at_its_end.Goals as goal

pub returns : goal.returns
returns c = grows
