use Rattle.std.proofs.Common.{◌≡◌, ◌+◌, ◌-◌}
use Rattle.cse_case.specs.Bytes.{columns_lent}
use Rattle.cse_office.specs.Changes.{differ}
use Rattle.cse_office.proofs.item.differ.Given as goal

abbrev pub invariant-columns : goal.invariant-columns
invariant-columns l = differ l.first l.len (columns_lent l.before) (columns_lent l.after) ≡ differ (l.first + l.i) (l.len - l.i) (columns_lent l.before) (columns_lent l.after)
