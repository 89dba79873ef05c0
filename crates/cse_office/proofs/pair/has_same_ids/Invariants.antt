use Rattle.std.proofs.Common.{◌≡◌, drop}
use Rattle.cse_case.specs.Bytes.{columns_lent}
use Rattle.cse_office.specs.Changes.{has_same_ids}
use Rattle.cse_office.proofs.pair.has_same_ids.Given as goal

abbrev pub invariant-items : goal.invariant-items
invariant-items l = has_same_ids l.items (columns_lent l.before) (columns_lent l.after) ≡ has_same_ids (drop l.n l.items) (columns_lent l.before) (columns_lent l.after)
