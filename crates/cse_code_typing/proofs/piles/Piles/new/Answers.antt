use Rattle.std.proofs.Common.{ap, reverse}
use Rattle.cse_code_typing.proofs.Shares.{shared_none}
use Rattle.cse_code_typing.proofs.piles.Piles.new.Goals as goal

pub invariant_of-result : goal.invariant_of-result
invariant_of-result c = shared_none _ _ _ (ap reverse c.new.ensures.items) (ap reverse c.new-2.ensures.items) c.new-3.ensures
