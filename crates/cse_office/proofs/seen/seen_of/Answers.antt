use Rattle.std.proofs.Common.{◌∙◌}
use Rattle.cse_office.proofs.CountLaws.{seen_is}
use Rattle.cse_office.proofs.seen.seen_of.Goals as goal

pub returns-clause-is : goal.returns-clause-is
returns-clause-is c = c.seen_lines.ensures.is ∙ seen_is c.args.records.now c.args.number c.most_of.result c.args.lines.now c.most_of.ensures
