use Rattle.std.proofs.Common.{◌≡◌, ℕ, ◌<◌, Some}
use Rattle.cse_code_typing.specs.Bracket.{IsAround}
use Rattle.cse_code_typing.specs.Innermost.{Reaches, reach}
use Rattle.cse_code_typing.proofs.innermost.still_around.Given as goal

-- a bracket around the place begins no later than the opener at hand
abbrev pub invariant-outward : goal.invariant-outward
invariant-outward g l = record {
  reaches : (s : ℕ) → IsAround l.code s l.place → Reaches l.opener s;
  before : (t : ℕ) → l.opener ≡ Some t → t < l.place;
}

abbrev pub decreases-outward : goal.decreases-outward
decreases-outward g l = reach l.opener
