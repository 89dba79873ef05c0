use Rattle.std.proofs.Common.{◌≡◌, replicate}
use Rattle.cse_code_typing.specs.declared.piles.Expected.TheVariants.{Free}
use Rattle.cse_code_typing.proofs.walk.nothing.Given as goal

abbrev pub invariant-places : goal.invariant-places
invariant-places l = l.known.items ≡ replicate l.counter Free
