use Rattle.std.proofs.Common.{◌∙◌}
use Rattle.cse_logic_expressions.proofs.Numbers.{number_is}
use Rattle.cse_logic_expressions.proofs.errmsg.message_number.Goals as goal
use Rattle.cse_logic_names.proofs.Numbers.{no_number_is}

pub returns-in-None : goal.returns-in-None
returns-in-None c = no_number_is c.args.digits.now c.in-None.ensures.value

pub returns-in-Some : goal.returns-in-Some
returns-in-Some c = c.in_range.ensures ∙ number_is c.args.digits.now c.in-Some.number c.in-Some.ensures.value.0 c.in-Some.ensures.value.1
