use Rattle.cse_report.proofs.ToldLaws.{lines_so_far}
use Rattle.cse_report.proofs.laws.lines_so_far.Goals as goal

pub returns : goal.returns
returns c = lines_so_far
