use Rattle.std.proofs.Common.{◌≡◌, drop}
use Rattle.cse_types.specs.Fresh.{all_after}
use Rattle.cse_types.proofs.TableLaws.{with_written}
use Rattle.cse_types.proofs.table.globals.Given as goal

abbrev pub invariant-all : goal.invariant-all
invariant-all l = all_after (with_written l.dictionary l.is_text) l.table (drop l.x-index l.names.items) ≡ all_after (with_written l.dictionary l.is_text) l.initial.table l.names.items
