use Rattle.cse_logic_names.proofs.OrderLaws.{ordered}
use Rattle.cse_logic_names.proofs.order.Order.read.Goals as goal

pub returns-clause-order : goal.returns-clause-order
returns-clause-order c = ordered c.args.dictionary.now c.read_lines.result _ c.read_lines.ensures
