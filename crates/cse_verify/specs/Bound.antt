-- How many steps a call of a routine may take.
use Rattle.std.specs.Prelude.{◌≡◌, ℕ, zero, suc, ◌+◌, ◌*◌, ◌<◌, ◌≤◌, List, [], ◌∷◌, ◌++◌, length, Option, Some, slice_get, slice_index}
use Rattle.cse_image_parts.specs.Image.{Image}
use Rattle.cse_code_typing.specs.declared.control.Control.{Control}
use Rattle.cse_code_typing.specs.declared.control.Control.TheVariants.{Call}
use Rattle.cse_code_typing.specs.declared.refusal.Refusal.{Refusal}
use Rattle.cse_code_typing.specs.Skeleton.{skeleton_of}
use Rattle.cse_verify.specs.Limit.{step_limit}
use Rattle.cse_verify.specs.Weight.{weight}

-- the steps of one visit, with the bounds of the smaller routines: one, and at a call those of the callee
abbrev pub cost : List ℕ → Option Control → ℕ
cost bounds (Some (Call r)) = 1 + slice_index bounds r
cost bounds _ = 1

-- the partial sum: the steps of all visits of the places below p
unfoldable pub partial : List ℕ → List Control → ℕ → ℕ
partial bounds code zero = 0
partial bounds code (suc p) = partial bounds code p + weight code p * cost bounds (slice_get code p)

-- the bounds of the routines below r, in order
unfoldable pub bounds_below : Image → ℕ → List ℕ
bounds_below x zero = []
bounds_below x (suc r) =
    bounds_below x r ++ partial (bounds_below x r) (skeleton_of x r) (length (skeleton_of x r)) ∷ []

-- the sum over the places below p of routine r
abbrev pub partial_of : Image → ℕ → ℕ → ℕ
partial_of x r p = partial (bounds_below x r) (skeleton_of x r) p

-- the bound of routine r: the sum over all of its places
abbrev pub bound : Image → ℕ → ℕ
bound x r = partial_of x r (length (skeleton_of x r))

-- the bounds of the routines below n keep to the limit
abbrev pub AreBoundedBelow : Image → ℕ → Type 0
AreBoundedBelow x n = (r : ℕ) → r < n → bound x r ≤ step_limit

-- the least place at which the partial sum passes the limit
pub record PassesLimit (bounds : List ℕ) (code : List Control) (p : ℕ) : Type 0 where
  pub within : p < length code
  pub before : partial bounds code p ≤ step_limit
  pub after : step_limit < partial bounds code (suc p)

-- 67: the least routine whose bound is above the limit, and the least place at which its sum passes it
pub record IsTooLong (x : Image) (e : Refusal) : Type 0 where
  pub number : e.number ≡ 67
  pub before : AreBoundedBelow x e.routine
  pub at : PassesLimit (bounds_below x e.routine) (skeleton_of x e.routine) e.at

-- the calls of some code go to the routines below r
abbrev pub CallsBelow : ℕ → List Control → Type 0
CallsBelow r code = (p c : ℕ) → slice_get code p ≡ Some (Call c) → c < r
