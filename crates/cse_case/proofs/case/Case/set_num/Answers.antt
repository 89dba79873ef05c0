use Rattle.cse_case.proofs.SightLaws.{occurrence_there}
use Rattle.cse_case.proofs.case.Case.set_num.Goals as goal

pub set-requires-clause-there : goal.set-requires-clause-there
set-requires-clause-there c = occurrence_there c.args.self.now c.args.number c.args.occurrence c.requires.occurrence
