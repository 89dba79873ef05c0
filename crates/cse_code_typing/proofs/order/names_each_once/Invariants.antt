use Rattle.std.proofs.Common.{◌≡◌, ◌==◌, ℕ, ◌<◌, count_by}
use Rattle.cse_code_typing.proofs.order.names_each_once.Given as goal

-- the records so far are named once
abbrev pub invariant-records : goal.invariant-records
invariant-records l = (k : ℕ) → k < l.number → count_by (λ o. o == k) l.order ≡ 1
