use Rattle.std.proofs.Common.{◌≡◌, ℕ, ◌+◌, ◌<◌, ◌≤◌, length, get_or}
use Rattle.cse_case.specs.Field.{item_at}
use Rattle.cse_office.specs.Changes.{count_in, no_count, with_changes}
use Rattle.cse_office.proofs.sums.add_changes.Given as goal

abbrev pub invariant-records : goal.invariant-records
invariant-records l = record {
  done : (k : ℕ) → k < length l.items → (item_at l.items k).owner < l.owner → get_or l.counts k no_count ≡ with_changes (get_or l.fn.counts k no_count) (count_in l.records (item_at l.items k) l.before l.after).changed;
  later : (k : ℕ) → k < length l.items → l.owner ≤ (item_at l.items k).owner → get_or l.counts k no_count ≡ get_or l.fn.counts k no_count;
  few : (k : ℕ) → k < length l.items → (get_or l.counts k no_count).changed ≤ (get_or l.fn.counts k no_count).changed + length l.before;
}
