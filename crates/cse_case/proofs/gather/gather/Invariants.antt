use Rattle.std.proofs.Common.{length}
use Rattle.cse_case.specs.Taking.{Gathers}
use Rattle.cse_case.proofs.gather.gather.Given as goal

abbrev pub invariant-lines : goal.invariant-lines
invariant-lines l = Gathers l.dictionary l.first l.ended l.fn.run l.fn.buffer l.run l.buffer

abbrev pub decreases-lines : goal.decreases-lines
decreases-lines l = length l.buffer
