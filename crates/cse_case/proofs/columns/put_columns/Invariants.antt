use Rattle.std.proofs.Common.{◌≡◌, ◌<◌, ℕ, get_or}
use Rattle.cse_case.specs.Bytes.{columns_lent}
use Rattle.cse_case.proofs.columns.put_columns.Given as goal

abbrev pub invariant-columns : goal.invariant-columns
invariant-columns l = (k : ℕ) → k < l.i → get_or l.characters k 0 ≡ get_or (columns_lent l.columns) k 0
