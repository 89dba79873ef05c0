use Rattle.cse_command_parts.proofs.OutcomeLaws.{front_written, whole_written}
use Rattle.cse_commands.proofs.start.tell.Goals as goal

pub returns-clause-front : goal.returns-clause-front
returns-clause-front g c = front_written c.write_outcome.result _ _ _ c.write_outcome.ensures.bytes

pub returns-clause-told : goal.returns-clause-told
returns-clause-told g c sound = whole_written c.write_outcome.result _ _ _ _ _ c.write_outcome.ensures.bytes c.write_outcome.ensures.failed sound
