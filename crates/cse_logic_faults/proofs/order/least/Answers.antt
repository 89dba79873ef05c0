use Rattle.cse_lemmas.proofs.Lists.{drop_read}
use Rattle.cse_logic_faults.proofs.LeastLaws.{least_turn, least_end}
use Rattle.cse_logic_faults.proofs.order.least.Goals as goal

pub all-preserved : goal.all-preserved
all-preserved c = least_turn _ _ c.x-item.result (drop_read c.args.all.now c.all.x-index c.x-item.result c.all-test.true c.x-item.is) c.all.least c.lesser.result _ c.all.invariant c.lesser.ensures

pub returns : goal.returns
returns c = least_end c.args.all.now c.all.x-index c.all-test.false c.all.least _ c.all.invariant
