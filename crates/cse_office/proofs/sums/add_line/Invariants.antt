use Rattle.std.proofs.Common.{◌≡◌, ℕ, ◌<◌, ◌≤◌, cond, get_or}
use Rattle.cse_case.specs.Bytes.{columns_lent}
use Rattle.cse_case.specs.Field.{item_at}
use Rattle.cse_office.specs.Changes.{is_changed_own, no_count, with_changes}
use Rattle.cse_office.proofs.sums.add_line.Given as goal

abbrev pub invariant-items : goal.invariant-items
invariant-items l = record {
  each : (k : ℕ) → k < l.n → get_or l.counts k no_count ≡ with_changes (get_or l.fn.counts k no_count) (cond (is_changed_own l.owner (item_at l.items k) (columns_lent l.before) (columns_lent l.after)) 1 0);
  others : (k : ℕ) → l.n ≤ k → get_or l.counts k no_count ≡ get_or l.fn.counts k no_count;
}
