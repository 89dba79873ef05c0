-- Which programs are typed for a dictionary of a shape, and the first reason why one isn't.
use Rattle.std.specs.Prelude.{◌≡◌, ◌<◌, ◌+◌, ℕ, length, Some, slice_get, IsTrue, true, false, ◌⊎◌}
use Rattle.cse_value.specs.Shape.{ShapeLists}
use Rattle.cse_image_parts.specs.declared.instruction.Instr.{Instr}
use Rattle.cse_image_parts.specs.Image.{Image, RoutineLists}
use Rattle.cse_code_typing.specs.declared.refusal.Refusal.{Refusal}
use Rattle.cse_code_typing.specs.Code.{code_of}
use Rattle.cse_code_typing.specs.Skeleton.{skeleton_of}
use Rattle.cse_code_typing.specs.Bracket.{KeepsRules, BreaksFirst}
use Rattle.cse_code_typing.specs.Signature.{Scene}
use Rattle.cse_code_typing.specs.Rule.{rule}
use Rattle.cse_code_typing.specs.Typing.{HasTypingBelow, IsTypedCode, HasNoStackAt}
use Rattle.cse_code_typing.specs.Calls.{may_stand, MayStandBelow, AllMayStand}
use Rattle.cse_code_typing.specs.Order.{NamesEachOnce, all_events_fit}
use Rattle.cse_code_typing.specs.Shapes.{shape_of}

-- what stands around the instructions of a routine
abbrev pub scene_of : ShapeLists → Image → RoutineLists → Scene
scene_of s x y = record { shape = s; lists = x.lists; routine = y }

-- a routine keeps the rules of brackets, each of its instructions may stand in it, and it has a typing
pub record IsTypedRoutine (s : ShapeLists) (x : Image) (r : ℕ) (y : RoutineLists) : Type 0 where
  pub brackets : KeepsRules (skeleton_of x r)
  pub calls : AllMayStand x.lists.routines r y.ambient (code_of x r)
  pub typing : IsTypedCode (rule (scene_of s x y) (code_of x r)) (code_of x r)

-- the routines below n are typed
abbrev pub AreTypedBelow : ShapeLists → Image → ℕ → Type 0
AreTypedBelow s x n = (r : ℕ) (y : RoutineLists) → r < n → slice_get x.lists.routines r ≡ Some y → IsTypedRoutine s x r y

-- The program is typed for a dictionary of this shape.
pub record IsTyped (s : ShapeLists) (x : Image) : Type 0 where
  pub shape : s ≡ shape_of x
  pub routines : AreTypedBelow s x (length x.lists.routines)
  pub order : NamesEachOnce (length s.records) x.lists.order
  pub events : IsTrue (all_events_fit s x.lists)

-- ---- why a program isn't typed: the first reason, and its number

-- 65: the least place that breaks a rule of jumps or brackets
pub record BreaksRules (s : ShapeLists) (x : Image) (e : Refusal) : Type 0 where
  pub number : e.number ≡ 65
  pub shape : s ≡ shape_of x
  pub within : e.routine < length x.lists.routines
  pub before : AreTypedBelow s x e.routine
  pub at : BreaksFirst (skeleton_of x e.routine) e.at

-- 69: the least place whose instruction may not stand in its routine, the places before it having a typing
pub record MayNotStand (s : ShapeLists) (x : Image) (e : Refusal) : Type 0 where
  pub number : e.number ≡ 69
  pub shape : s ≡ shape_of x
  pub before : AreTypedBelow s x e.routine
  pub routine : RoutineLists
  pub there : slice_get x.lists.routines e.routine ≡ Some routine
  pub brackets : KeepsRules (skeleton_of x e.routine)
  pub instr : Instr
  pub stands : slice_get (code_of x e.routine) e.at ≡ Some instr
  pub fails : may_stand x.lists.routines e.routine routine.ambient instr ≡ false
  pub calls : MayStandBelow x.lists.routines e.routine routine.ambient (code_of x e.routine) e.at
  pub typing : HasTypingBelow (rule (scene_of s x routine) (code_of x e.routine)) (code_of x e.routine) e.at

-- 66: the least place p for which the places below have a typing, and those up to p have none
pub record HasNoStack (s : ShapeLists) (x : Image) (e : Refusal) : Type 0 where
  pub number : e.number ≡ 66
  pub shape : s ≡ shape_of x
  pub before : AreTypedBelow s x e.routine
  pub routine : RoutineLists
  pub there : slice_get x.lists.routines e.routine ≡ Some routine
  pub brackets : KeepsRules (skeleton_of x e.routine)
  pub calls : MayStandBelow x.lists.routines e.routine routine.ambient (code_of x e.routine) (e.at + 1)
  pub at : HasNoStackAt (rule (scene_of s x routine) (code_of x e.routine)) (code_of x e.routine) e.at

-- stands for no routine and for no place
abbrev pub nowhere : ℕ
nowhere = 4294967295

abbrev pub IsNowhere : Refusal → Type 0
IsNowhere e = (e.routine ≡ nowhere) × (e.at ≡ nowhere)

-- 68: the program was made for a dictionary of another shape
pub record IsOfOtherShape (s : ShapeLists) (x : Image) (e : Refusal) : Type 0 where
  pub number : e.number ≡ 68
  pub place : IsNowhere e
  pub differs : s ≡ shape_of x → ⊥

-- 69 with no place: the order or an event doesn't fit
pub record HasUnfitEvents (s : ShapeLists) (x : Image) (e : Refusal) : Type 0 where
  pub number : e.number ≡ 69
  pub place : IsNowhere e
  pub shape : s ≡ shape_of x
  pub routines : AreTypedBelow s x (length x.lists.routines)
  pub unfit : NamesEachOnce (length s.records) x.lists.order → all_events_fit s x.lists ≡ true → ⊥

-- 90: memory ran out
abbrev pub IsOutOfMemory : Refusal → Type 0
IsOutOfMemory e = (e.number ≡ 90) × IsNowhere e

-- the first reason, where memory suffices
abbrev pub Refuses : ShapeLists → Image → Refusal → Type 0
Refuses s x e = IsOfOtherShape s x e ⊎ (BreaksRules s x e ⊎ (MayNotStand s x e ⊎ (HasNoStack s x e ⊎ HasUnfitEvents s x e)))
