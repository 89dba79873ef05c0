-- The functions of a program do what they mean.
use Rattle.std.specs.Prelude.{◌≡◌, ◌<◌, ℕ, true, false, List, [], ◌∷◌, map, take, Option, Some, slice_get, is_some}
use Rattle.cse_value.specs.declared.number.Num.{Num}
use Rattle.cse_image_parts.specs.declared.entries.Gift.TheVariants as gifts
use Rattle.cse_image_parts.specs.declared.entries.Local.{Local}
use Rattle.cse_image_parts.specs.Image.{RoutineLists}
use Rattle.cse_case.specs.Case.{CaseText}
use Rattle.cse_code_typing.specs.declared.kind.Kind.TheVariants as kind
use Rattle.cse_code_typing.specs.Kinds.{local_kind}
use Rattle.cse_code_typing.specs.Order.{is_run}
use Rattle.cse_verify.specs.Verified.{VerifiedProgram}
use Rattle.cse_steps.specs.Cell.{Number}
use Rattle.cse_steps.specs.State.{Call, World, State}
use Rattle.cse_steps.specs.Step.{new_call}
use Rattle.cse_steps.specs.Fits.{FitsWorld}
use Rattle.cse_meaning.specs.Setting.{Functions}
use Rattle.cse_meaning.specs.Runs.{Goes}

-- a number for each parameter, and these are numbers
abbrev pub AreNumbers : List Local → List Num → Type 0
AreNumbers [] [] = Unit {0}
AreNumbers (l ∷ ls) (x ∷ xs) = (local_kind l ≡ kind.Number) × AreNumbers ls xs
AreNumbers _ _ = ⊥

-- a routine above a call that waits for it, with these arguments
abbrev pub called_above : ℕ → RoutineLists → List Num → Call → List Call → World → State
called_above k y args caller below w = record { calls = new_call k y (map Number args) ∷ caller ∷ below; world = w }

-- that call with a number more on its stack
abbrev pub back_in : Call → Num → List Call → World → State
back_in caller x below w = record { calls = record caller { cells = Number x ∷ caller.cells } ∷ below; world = w }

-- Each function below a number, called with numbers above any calls, comes back with its value, to the world that its meaning
-- leaves, which fits. A function of cases has a case.
pub record Follows (v : VerifiedProgram) (first : Option CaseText) (fn : Functions) (n : ℕ) : Type 0 where
  pub goes : (k : ℕ) (y : RoutineLists) (args : List Num) (caller : Call) (below : List Call) (w : World) → k < n → slice_get v.image.lists.routines k ≡ Some y → y.gives ≡ gifts.Number
      → AreNumbers (take y.parameters y.locals) args → (is_run y.ambient ≡ false → is_some first ≡ true) → FitsWorld v first w
      → Goes v (called_above k y args caller below w) (back_in caller (fn k args w).0 below (fn k args w).1)
  pub fits : (k : ℕ) (y : RoutineLists) (args : List Num) (w : World) → k < n → slice_get v.image.lists.routines k ≡ Some y → y.gives ≡ gifts.Number
      → AreNumbers (take y.parameters y.locals) args → (is_run y.ambient ≡ false → is_some first ≡ true) → FitsWorld v first w → FitsWorld v first (fn k args w).1
