use Rattle.std.proofs.Common.{ℕ, ◌≤◌}
use Rattle.cse_code_typing.specs.Bracket.{IsAround}
use Rattle.cse_code_typing.proofs.innermost.begins_none_between.Given as goal

-- no bracket that begins from the opener at hand on is around the place
abbrev pub invariant-outward : goal.invariant-outward
invariant-outward g l = (s : ℕ) → l.opener ≤ s → IsAround l.code s l.to → ⊥

abbrev pub decreases-outward : goal.decreases-outward
decreases-outward g l = l.opener
