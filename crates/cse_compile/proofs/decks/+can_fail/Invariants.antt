use Rattle.std.proofs.Common.{length}
use Rattle.cse_compile.proofs.decks.+can_fail.Given as goal

abbrev pub decreases-can_fail : goal.decreases-can_fail
decreases-can_fail l = length l.picks.now
