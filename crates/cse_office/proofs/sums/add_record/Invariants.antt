use Rattle.std.proofs.Common.{◌≡◌, ℕ, ◌+◌, ◌<◌, ◌≤◌, length, get_or, take}
use Rattle.std.specs.Prelude.{count_by}
use Rattle.cse_case.specs.Field.{item_at}
use Rattle.cse_case.specs.Seen.{places_from as own_places}
use Rattle.cse_office.specs.Changes.{is_changed_own_at, no_count, types_of}
use Rattle.cse_office.proofs.ChangeLaws.{left}
use Rattle.cse_office.proofs.sums.add_record.Given as goal

abbrev pub invariant-lines : goal.invariant-lines
invariant-lines l = record {
  occurrences : (k : ℕ) → k < length l.items → (get_or l.counts k no_count).occurrences ≡ (get_or l.fn.counts k no_count).occurrences;
  changed : (k : ℕ) → k < length l.items → (get_or l.counts k no_count).changed + count_by (is_changed_own_at l.owner (item_at l.items k) l.before l.after) (left l.most l.seen l.owner l.place (types_of l.before))
      ≡ (get_or l.fn.counts k no_count).changed + count_by (is_changed_own_at l.owner (item_at l.items k) l.before l.after) (take l.most (own_places 0 l.owner (types_of l.before)));
  few : (k : ℕ) → k < length l.items → (get_or l.counts k no_count).changed ≤ (get_or l.fn.counts k no_count).changed + l.place;
}
