use Rattle.std.proofs.Common.{◌≡◌, drop}
use Rattle.cse_types.specs.Fresh.{all_after}
use Rattle.cse_types.specs.Table.{no_table}
use Rattle.cse_types.proofs.TableLaws.{with_parsed}
use Rattle.cse_types.proofs.table.table_of.Given as goal

abbrev pub invariant-all : goal.invariant-all
invariant-all l = all_after (with_parsed l.dictionary) l.table (drop l.x-index l.all.items) ≡ all_after (with_parsed l.dictionary) no_table l.all.items
