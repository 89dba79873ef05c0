use Rattle.std.proofs.Common.{◌≡◌, ℕ, ◌<◌, ◌≤◌, get_or}
use Rattle.cse_case.specs.Field.{item_at}
use Rattle.cse_office.specs.Changes.{no_count, times_of}
use Rattle.cse_office.proofs.sums.put_occurrences.Given as goal

abbrev pub invariant-items : goal.invariant-items
invariant-items l = record {
  each : (k : ℕ) → k < l.n → get_or l.counts k no_count ≡ record { occurrences = times_of l.seen l.lines (item_at l.items k).owner; changed = (get_or l.fn.counts k no_count).changed };
  others : (k : ℕ) → l.n ≤ k → get_or l.counts k no_count ≡ get_or l.fn.counts k no_count;
}
