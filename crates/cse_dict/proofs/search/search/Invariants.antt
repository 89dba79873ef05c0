use Rattle.std.proofs.Common.{length}
use Rattle.cse_dict.proofs.SearchLaws.{Sought}
use Rattle.cse_dict.proofs.search.search.Given as goal

abbrev pub invariant-halves : goal.invariant-halves
invariant-halves l = Sought l.fn.number l.rest l.fn.spans

abbrev pub decreases-halves : goal.decreases-halves
decreases-halves l = length l.rest
