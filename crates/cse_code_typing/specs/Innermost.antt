-- The innermost bracket around each place, as a table made place after place.
use Rattle.std.specs.Prelude.{ℕ, zero, suc, ◌≤◌, ◌+◌, List, [], ◌∷◌, ◌++◌, Option, None, Some}
use Rattle.cse_code_typing.specs.declared.control.Control.{Control}
use Rattle.cse_code_typing.specs.Bracket.{innermost}

-- the innermost bracket around each of the places below n
unfoldable pub innermost_below : List Control → ℕ → List (Option ℕ)
innermost_below code zero = []
innermost_below code (suc n) = innermost_below code n ++ innermost code n ∷ []

-- an opener, where there is one, that stands no earlier than s
abbrev pub Reaches : Option ℕ → ℕ → Type 0
Reaches None s = ⊥
Reaches (Some t) s = s ≤ t

-- how many places an opener has before and at it
abbrev pub reach : Option ℕ → ℕ
reach None = 0
reach (Some t) = t + 1
