use Rattle.cse_meaning.proofs.Standing.{instructions_may_stand}
use Rattle.cse_meaning.proofs.TypedWhole.{brackets_keep_rules, code_is_typed, steps_are_counted, routine_is_typed, routine_is_counted}
use Rattle.cse_meaning.proofs.typed.code_is_typed.Goals as goal

pub returns-clause-brackets : goal.returns-clause-brackets
returns-clause-brackets c = brackets_keep_rules

pub returns-clause-typing : goal.returns-clause-typing
returns-clause-typing c = code_is_typed

pub returns-clause-steps : goal.returns-clause-steps
returns-clause-steps c = steps_are_counted

pub returns-clause-calls : goal.returns-clause-calls
returns-clause-calls c = instructions_may_stand

pub returns-clause-routine : goal.returns-clause-routine
returns-clause-routine c = routine_is_typed

pub returns-clause-bound : goal.returns-clause-bound
returns-clause-bound c = routine_is_counted
