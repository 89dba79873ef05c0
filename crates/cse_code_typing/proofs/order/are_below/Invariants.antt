use Rattle.std.proofs.Common.{◌≡◌, true, take, ltb}
use Rattle.std.specs.List.{list_all}
use Rattle.cse_code_typing.proofs.order.are_below.Given as goal

abbrev pub invariant-order : goal.invariant-order
invariant-order l = list_all (λ o. ltb o l.count) (take l.i l.order) ≡ true
