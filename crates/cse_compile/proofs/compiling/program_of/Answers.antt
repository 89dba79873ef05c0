use Rattle.cse_compile.proofs.Refused.{err_others, err_cost, err_room}
use Rattle.cse_compile.proofs.compiling.program_of.Goals as goal

pub returns-in-Ok-clause-others : goal.returns-in-Ok-clause-others
returns-in-Ok-clause-others c = err_others _ _ _ _ c.spelled.result c.in-Ok.ensures.ok c.spelled.ensures.refused

pub returns-in-Ok-clause-cost : goal.returns-in-Ok-clause-cost
returns-in-Ok-clause-cost c = err_cost _ _ _ _ c.spelled.result c.in-Ok.ensures.ok c.spelled.ensures.refused

pub returns-in-Ok-clause-room : goal.returns-in-Ok-clause-room
returns-in-Ok-clause-room c = err_room _ _ _ _ c.spelled.result c.in-Ok.ensures.ok c.in-Ok.ensures.fit c.spelled.ensures.room
