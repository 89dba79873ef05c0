use Rattle.std.proofs.Common.{◌≡◌, ◌≤◌, take, eqb}
use Rattle.std.specs.List.{count_by}
use Rattle.cse_code_typing.proofs.order.count_of.Given as goal

abbrev pub invariant-order : goal.invariant-order
invariant-order l = (l.count ≡ count_by (λ o. eqb o l.number) (take l.i l.order)) × (l.count ≤ l.i)
