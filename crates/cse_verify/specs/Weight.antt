-- How often one call of a routine may come to a place: the product of the limits of the brackets around it.
use Rattle.std.specs.Prelude.{ℕ, ◌*◌, List, [], ◌∷◌, Option, Some, slice_get}
use Rattle.cse_code_typing.specs.declared.control.Control.{Control}
use Rattle.cse_code_typing.specs.declared.control.Control.TheVariants.{Open}
use Rattle.cse_code_typing.specs.Bracket.{around}

-- the most turns of the bracket that opens here; 1 where none opens
abbrev pub limit_in : Option Control → ℕ
limit_in (Some (Open limit end)) = limit
limit_in _ = 1

-- the product of the limits of the brackets with these openers
abbrev pub product : List Control → List ℕ → ℕ
product code [] = 1
product code (s ∷ ss) = limit_in (slice_get code s) * product code ss

-- the weight of the place p
abbrev pub weight : List Control → ℕ → ℕ
weight code p = product code (around code p)
