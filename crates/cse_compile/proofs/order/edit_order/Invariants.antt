use Rattle.std.proofs.Common.{◌≡◌, ◌++◌}
use Rattle.std.specs.List.{flat_map, range_with_len}
use Rattle.cse_compile.specs.Order.{unless_named}
use Rattle.cse_compile.proofs.order.edit_order.Given as goal

abbrev pub invariant-numbers : goal.invariant-numbers
invariant-numbers l = l.order.items ≡ l.named ++ flat_map (unless_named l.named) (range_with_len 0 l.number)
