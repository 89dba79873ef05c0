use Rattle.std.proofs.Common.{◌≡◌, take}
use Rattle.cse_case.specs.Bytes.{columns_lent}
use Rattle.cse_case.proofs.text.read_columns.Given as goal

abbrev pub invariant-columns : goal.invariant-columns
invariant-columns l = l.text.items ≡ take l.i (columns_lent l.columns)
