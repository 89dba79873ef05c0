use Rattle.std.proofs.Common.{arith}
use Rattle.cse_case.proofs.ShortLaws.{of_two}
use Rattle.cse_case.proofs.beyond.char_of.Goals as goal

pub returns-clause-written : goal.returns-clause-written
returns-clause-written c = of_two _ c.args.lead c.args.other (omega arith) (omega arith) (omega arith) (omega arith) c.from_u32.ensures.value
