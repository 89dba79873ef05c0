use Rattle.std.proofs.Common.{length}
use Rattle.cse_compile.proofs.emitter.Emitter.+picks.Given as goal

abbrev pub decreases-picks : goal.decreases-picks
decreases-picks l = length l.picks.now
