use Rattle.std.proofs.Common.{length}
use Rattle.cse_compile.proofs.decks.+picks_size.Given as goal

abbrev pub decreases-picks_size : goal.decreases-picks_size
decreases-picks_size l = length l.picks.now
