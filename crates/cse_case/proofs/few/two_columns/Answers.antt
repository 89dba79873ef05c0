use Rattle.cse_case.proofs.FewLaws.{two_high, two_low}
use Rattle.cse_case.proofs.few.two_columns.Goals as goal

pub returns-then-number-lt10 : goal.returns-then-number-lt10
returns-then-number-lt10 c = two_low c.args.filler c.args.number _ c.if-number-lt10.true c.character.ensures

pub returns-else-number-lt10 : goal.returns-else-number-lt10
returns-else-number-lt10 c =
    two_high c.args.filler c.args.number _ _ c.if-number-lt10.false c.requires c.character-else-number-lt10.ensures c.character-else-number-lt10-2.ensures
