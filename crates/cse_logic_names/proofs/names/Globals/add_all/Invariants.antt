use Rattle.std.proofs.Common.{◌≡◌, drop}
use Rattle.cse_logic_names.specs.Uses.{with_globals}
use Rattle.cse_logic_names.proofs.names.Globals.add_all.Given as goal

abbrev pub invariant-all : goal.invariant-all
invariant-all l = with_globals l.self (drop l.place l.more) ≡ with_globals l.initial.self l.more
