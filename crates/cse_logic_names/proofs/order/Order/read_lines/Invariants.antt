use Rattle.std.proofs.Common.{length}
use Rattle.cse_logic_names.proofs.OrderLaws.{Cut}
use Rattle.cse_logic_names.proofs.order.Order.read_lines.Given as goal

abbrev pub invariant-lines : goal.invariant-lines
invariant-lines l = Cut l.dictionary l.order l.number l.rest l.fn.text

abbrev pub decreases-lines : goal.decreases-lines
decreases-lines l = length l.rest
