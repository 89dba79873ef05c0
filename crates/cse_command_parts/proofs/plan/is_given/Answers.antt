use Rattle.cse_command_parts.proofs.WordLaws.{flag_is}
use Rattle.cse_command_parts.proofs.plan.is_given.Goals as goal

pub returns : goal.returns
returns c = flag_is c.args.matches.now c.args.name.now c.get_flag.result c.get_flag.ensures.value c.get_flag.ensures.other
