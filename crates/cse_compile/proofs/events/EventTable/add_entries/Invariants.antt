use Rattle.std.proofs.Common.{◌≡◌, ◌++◌}
use Rattle.cse_compile.specs.Events.{entries_below}
use Rattle.cse_compile.proofs.events.EventTable.add_entries.Given as goal

abbrev pub invariant-all : goal.invariant-all
invariant-all l = l.events.items ≡ l.initial.events.items ++ entries_below l.self l.code l.index
