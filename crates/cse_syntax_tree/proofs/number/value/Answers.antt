use Rattle.cse_syntax_tree.proofs.Digits.{too_large}
use Rattle.cse_syntax_tree.proofs.number.value.Goals as goal

pub returns-in-None : goal.returns-in-None
returns-in-None c = too_large c.args.most c.loop-byte.value c.loop-byte.byte-index c.args.digits.now c.loop-byte.invariant.1 c.loop-byte-test.true (rw c.saturating_sub.ensures at c.in-None.ensures)
