use Rattle.std.proofs.Common.{◌-◌}
use Rattle.cse_code_typing.proofs.HandlerLaws.{Halved}
use Rattle.cse_code_typing.proofs.handlers.place_of.Given as goal

abbrev pub invariant-halves : goal.invariant-halves
invariant-halves l = Halved l.events l.order l.from l.to

abbrev pub decreases-halves : goal.decreases-halves
decreases-halves l = l.to - l.from
