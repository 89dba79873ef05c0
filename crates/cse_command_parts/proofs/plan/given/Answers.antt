use Rattle.cse_command_parts.proofs.WordLaws.{given_is}
use Rattle.cse_command_parts.proofs.plan.given.Goals as goal

pub returns-in-Some : goal.returns-in-Some
returns-in-Some c = given_is c.args.matches.now c.args.name.now c.get_str.result c.in-Some.word c.in-Some.is c.get_str.ensures
