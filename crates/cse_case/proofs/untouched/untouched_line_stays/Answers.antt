use Rattle.cse_case.proofs.WrittenLaws.{written-line}
use Rattle.cse_case.proofs.untouched.untouched_line_stays.Goals as goal

pub returns : goal.returns
returns c = written-line
