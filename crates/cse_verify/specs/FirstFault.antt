-- The first reason why a program may not run with a dictionary of a shape. The order is: 68; then routine by
-- routine 65, at the least place 69 or 66, and 67; then 69 for the order and the events; then 67 for a case.
use Rattle.std.specs.Prelude.{◌≡◌, ℕ, ◌+◌, ◌<◌, length, ◌⊎◌}
use Rattle.cse_value.specs.Shape.{ShapeLists}
use Rattle.cse_image_parts.specs.Image.{Image}
use Rattle.cse_code_typing.specs.declared.refusal.Refusal.{Refusal}
use Rattle.cse_code_typing.specs.Shapes.{shape_of}
use Rattle.cse_code_typing.specs.Typed.{AreTypedBelow, IsTyped, BreaksRules, MayNotStand, HasNoStack, IsNowhere, IsOfOtherShape, HasUnfitEvents}
use Rattle.cse_verify.specs.Limit.{step_limit}
use Rattle.cse_verify.specs.Bound.{AreBoundedBelow, IsTooLong}
use Rattle.cse_verify.specs.EventBound.{case_bound}

-- 65, 69 and 66 at a routine: those before it are typed, and bounded too
pub record IsUntypedRoutine (s : ShapeLists) (x : Image) (e : Refusal) : Type 0 where
  pub reason : BreaksRules s x e ⊎ (MayNotStand s x e ⊎ HasNoStack s x e)
  pub bounded : AreBoundedBelow x e.routine

-- 67 at a routine: it and those before it are typed, and those before it bounded
pub record IsTooLongRoutine (s : ShapeLists) (x : Image) (e : Refusal) : Type 0 where
  pub shape : s ≡ shape_of x
  pub within : e.routine < length x.lists.routines
  pub routines : AreTypedBelow s x (e.routine + 1)
  pub reason : IsTooLong x e

-- 69 with no place: all routines are typed and bounded
pub record AreUnfitEvents (s : ShapeLists) (x : Image) (e : Refusal) : Type 0 where
  pub reason : HasUnfitEvents s x e
  pub bounded : AreBoundedBelow x (length x.lists.routines)

-- 67 with no place: the program is typed, each routine is bounded, and the events of a case together are not
pub record IsTooLongCase (s : ShapeLists) (x : Image) (e : Refusal) : Type 0 where
  pub number : e.number ≡ 67
  pub place : IsNowhere e
  pub typed : IsTyped s x
  pub bounded : AreBoundedBelow x (length x.lists.routines)
  pub case : step_limit < case_bound x

abbrev pub IsFirstFault : ShapeLists → Image → Refusal → Type 0
IsFirstFault s x e =
    IsOfOtherShape s x e
    ⊎ (IsUntypedRoutine s x e ⊎ (IsTooLongRoutine s x e ⊎ (AreUnfitEvents s x e ⊎ IsTooLongCase s x e)))

-- a program has one first reason at most
abbrev pub FirstReasonIsOne : Type 0
FirstReasonIsOne = (s : ShapeLists) (x : Image) (e f : Refusal) → IsFirstFault s x e → IsFirstFault s x f → e ≡ f
