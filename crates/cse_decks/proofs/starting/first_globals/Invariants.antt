use Rattle.std.proofs.Common.{◌≡◌, take}
use Rattle.std.specs.Prelude.{map}
use Rattle.cse_decks.specs.Store.{first_global}
use Rattle.cse_decks.proofs.starting.first_globals.Given as goal

-- the globals so far
abbrev pub invariant-loop-global : goal.invariant-loop-global
invariant-loop-global l = l.values.items ≡ map first_global (take l.global-index l.globals)
