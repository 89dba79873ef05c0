use Rattle.cse_case.proofs.FewLaws.{three_high, three_low}
use Rattle.cse_case.proofs.few.three_columns.Goals as goal

pub returns-then-number-lt10 : goal.returns-then-number-lt10
returns-then-number-lt10 c = three_low c.args.filler c.args.number _ c.if-number-lt10.true c.character.ensures

pub returns-else-number-lt10 : goal.returns-else-number-lt10
returns-else-number-lt10 c =
    three_high c.args.filler c.args.number _ _ _ c.if-number-lt10.false c.requires c.two_columns-first.ensures c.character-else-number-lt10.ensures
