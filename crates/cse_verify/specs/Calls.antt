-- The calls of a walk: where each stands, and why it is there; and the laws of walks.
use Rattle.std.specs.Prelude.{◌≡◌, ℕ, ◌+◌, ◌<◌, ◌≤◌, List, [], ◌∷◌, length, map, Some, slice_get}
use Rattle.std.specs.List.{sum_by}
use Rattle.cse_image_parts.specs.Image.{Image}
use Rattle.cse_code_typing.specs.declared.control.Control.TheVariants.{Call}
use Rattle.cse_code_typing.specs.Skeleton.{skeleton_of}
use Rattle.cse_code_typing.specs.Bracket.{around, KeepsRules}
use Rattle.cse_verify.specs.Bound.{bound, CallsBelow}
use Rattle.cse_verify.specs.Frames.{frames_of}
use Rattle.cse_verify.specs.Walk.{Standing, begun, walk, walked}
use Rattle.cse_verify.specs.Rest.{rest}

-- ---- of a program

-- each routine keeps the rules of jumps and brackets
abbrev pub AllKeepRules : Image → Type 0
AllKeepRules x = (r : ℕ) → r < length x.lists.routines → KeepsRules (skeleton_of x r)

-- the calls of each routine go to smaller ones
abbrev pub AllCallSmaller : Image → Type 0
AllCallSmaller x = (r : ℕ) → r < length x.lists.routines → CallsBelow r (skeleton_of x r)

-- what walks ask of a program: these two, and that each routine has an instruction
pub record MayWalk (x : Image) : Type 0 where
  pub rules : AllKeepRules x
  pub smaller : AllCallSmaller x
  pub some : (r : ℕ) → r < length x.lists.routines → 0 < length (skeleton_of x r)

-- ---- of calls

-- the call stands at a place of its routine, and its open brackets are those around the place
pub record IsStanding (x : Image) (c : Standing) : Type 0 where
  pub routine : c.routine < length x.lists.routines
  pub place : c.place < length (skeleton_of x c.routine)
  pub opens : map (λ t. t.opener) c.opens ≡ around (skeleton_of x c.routine) c.place

-- the caller d stands behind a call of the routine callee, which is smaller than its own
pub record IsCaller (x : Image) (callee : ℕ) (d : Standing) : Type 0 where
  pub smaller : callee < d.routine
  pub at : ℕ
  pub behind : d.place ≡ at + 1
  pub calls : slice_get (skeleton_of x d.routine) at ≡ Some (Call callee)

-- who called: the next of the calls below; or none, where the call is that of r
abbrev pub IsCalled : Image → ℕ → ℕ → List Standing → Type 0
IsCalled x r callee [] = callee ≡ r
IsCalled x r callee (d ∷ below) = IsCaller x callee d

-- the calls within a call of routine r, the innermost first
abbrev pub AreCalls : Image → ℕ → List Standing → Type 0
AreCalls x r [] = Unit {0}
AreCalls x r (c ∷ below) = IsStanding x c × IsCalled x r c.routine below × AreCalls x r below

-- how many brackets are open in all calls
abbrev pub open_in : List Standing → ℕ
open_in w = sum_by (λ c. length c.opens) w

-- ---- the laws

-- n steps of a call of a routine, and the rest that is left, are at most its bound
abbrev pub StepsKeepToBound : Image → Type 0
StepsKeepToBound x =
    (r : ℕ) (choices : List ℕ) (w : List Standing) → r < length x.lists.routines
    → walked x choices (begun r ∷ []) ≡ Some w → length choices + rest x w ≤ bound x r

-- they lead to calls that stand within that call
abbrev pub WalksStayInside : Image → Type 0
WalksStayInside x =
    (r : ℕ) (choices : List ℕ) (w : List Standing) → r < length x.lists.routines
    → walked x choices (begun r ∷ []) ≡ Some w → AreCalls x r w

-- calls that stand so stand so after a step, and their rest is smaller
abbrev pub RestFalls : Image → Type 0
RestFalls x =
    (r choice : ℕ) (w v : List Standing) → AreCalls x r w → walk x choice w ≡ Some v
    → AreCalls x r v × (rest x v < rest x w)

-- and whatever is chosen there is a step, while there is a call
abbrev pub WalksGoOn : Image → Type 0
WalksGoOn x =
    (r choice : ℕ) (c : Standing) (below : List Standing) → AreCalls x r (c ∷ below)
    → (v : List Standing) × (walk x choice (c ∷ below) ≡ Some v)

-- their open brackets are at most the frames of the routine
abbrev pub OpensKeepToFrames : Image → Type 0
OpensKeepToFrames x = (r : ℕ) (w : List Standing) → AreCalls x r w → open_in w ≤ frames_of x r

-- the rest of a call that begins is the bound of its routine
abbrev pub RestIsBound : Image → Type 0
RestIsBound x = (r : ℕ) → r < length x.lists.routines → rest x (begun r ∷ []) ≡ bound x r
