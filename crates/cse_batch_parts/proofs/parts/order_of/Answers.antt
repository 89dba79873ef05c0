use Rattle.cse_batch_parts.proofs.OrderLaws.{all_below}
use Rattle.cse_batch_parts.proofs.parts.order_of.Goals as goal

pub returns-clause-there : goal.returns-clause-there
returns-clause-there g c = all_below _ _ (rw (c.order.ensures, c.program.ensures.program) c.program.ensures.may_run.typed.order)
