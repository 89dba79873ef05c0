use Rattle.std.proofs.Common.{length}
use Rattle.cse_compile.proofs.decks.+deepest.Given as goal

abbrev pub decreases-deepest : goal.decreases-deepest
decreases-deepest l = length l.picks.now
