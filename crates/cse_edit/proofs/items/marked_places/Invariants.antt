use Rattle.std.proofs.Common.{◌≡◌}
use Rattle.std.specs.Prelude.{false, slice_index_or}
use Rattle.std.specs.List.{filter, range_with_len}
use Rattle.cse_edit.proofs.items.marked_places.Given as goal

abbrev pub invariant-marks : goal.invariant-marks
invariant-marks l = l.items.items ≡ filter (λ i. slice_index_or l.marks i false) (range_with_len 0 l.item)
