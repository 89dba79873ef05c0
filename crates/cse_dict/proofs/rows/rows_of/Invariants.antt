use Rattle.std.proofs.Common.{◌≡◌, take, fold}
use Rattle.cse_dict.specs.Pairs.{no_rows, with_value}
use Rattle.cse_dict.proofs.rows.rows_of.Given as goal

abbrev pub invariant-entries : goal.invariant-entries
invariant-entries l = l.rows ≡ fold (with_value l.data_type) no_rows (take l.entry-index l.section.entries)
