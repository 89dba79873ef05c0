use Rattle.std.proofs.Common.{◌≡◌, ◌+◌, [], drop, map}
use Rattle.cse_compile.specs.Outline.{handler}
use Rattle.cse_compile.specs.Events.{table_from}
use Rattle.cse_compile.proofs.events.event_table.Given as goal

abbrev pub invariant-all : goal.invariant-all
invariant-all l = record {
  number : l.routine ≡ l.first + l.written-index;
  table : table_from l.table l.routine (map handler (drop l.written-index l.handlers)) ≡ table_from [] l.first (map handler l.handlers);
}
