use Rattle.cse_command_parts.proofs.WordLaws.{word_is}
use Rattle.cse_command_parts.proofs.plan.may.Goals as goal

pub returns : goal.returns
returns c = word_is c.args.matches.now c.args.name.now c.get_str.result c.get_str.ensures
