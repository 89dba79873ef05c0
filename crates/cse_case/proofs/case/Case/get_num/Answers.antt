use Rattle.cse_case.proofs.SightLaws.{occurrence_there}
use Rattle.cse_case.proofs.case.Case.get_num.Goals as goal

pub own_part-own-requires-clause-there : goal.own_part-own-requires-clause-there
own_part-own-requires-clause-there c = occurrence_there c.args.self.now c.args.number c.args.occurrence c.requires.occurrence
