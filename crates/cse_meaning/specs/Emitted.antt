-- The laws of code: that of a sound typed routine is typed, and takes at most the steps that its tree tells.
use Rattle.std.specs.Prelude.{◌≡◌, ℕ, false, List, [], length}
use Rattle.cse_value.specs.Shape.{ShapeLists}
use Rattle.cse_image_parts.specs.declared.instruction.Instr.{Instr}
use Rattle.cse_image_parts.specs.Image.{Image, RoutineLists}
use Rattle.cse_code_typing.specs.Skeleton.{skeleton}
use Rattle.cse_code_typing.specs.Bracket.{KeepsRules}
use Rattle.cse_code_typing.specs.Rule.{rule}
use Rattle.cse_code_typing.specs.Typing.{IsTypedCode}
use Rattle.cse_code_typing.specs.Calls.{AllMayStand}
use Rattle.cse_code_typing.specs.Code.{code_of}
use Rattle.cse_code_typing.specs.Typed.{scene_of, IsTypedRoutine}
use Rattle.cse_verify.specs.Bound.{partial, bounds_below, bound}
use Rattle.cse_logic_tree.specs.Typed.{Statements}
use Rattle.cse_compile.specs.Setting.{Setting}
use Rattle.cse_compile.specs.Routines.{routine_code}
use Rattle.cse_meaning.specs.Stands.{AllStand}
use Rattle.cse_meaning.specs.Fit.{Spot, IsSettled, BlockFits}
use Rattle.cse_meaning.specs.Steps.{routine_steps}

-- instructions that stand for the code of statements that fit where a routine begins
pub record IsRoutine (s : Spot) (body : Statements) (code : List Instr) : Type 0 where
  pub outside : s.loops ≡ []
  pub settled : IsSettled s
  -- at most 64 loops, one within the other
  pub fits : BlockFits s 64 false body
  pub stands : AllStand s.scene.lists code (routine_code s.setting body)

abbrev pub BracketsKeepRules : Type 0
BracketsKeepRules = (s : Spot) (body : Statements) (code : List Instr) → IsRoutine s body code → KeepsRules (skeleton s.scene.lists code)

-- calls go to smaller routines, and what needs a case stands in routines of a case
abbrev pub InstructionsMayStand : Type 0
InstructionsMayStand =
    (s : Spot) (body : Statements) (code : List Instr) → IsRoutine s body code
    → AllMayStand s.scene.lists.routines s.number s.scene.routine.ambient code

abbrev pub CodeIsTyped : Type 0
CodeIsTyped = (s : Spot) (body : Statements) (code : List Instr) → IsRoutine s body code → IsTypedCode (rule s.scene code) code

-- with the bounds of the smaller routines
abbrev pub StepsAreCounted : Type 0
StepsAreCounted =
    (bounds : List ℕ) (s : Spot) (body : Statements) (code : List Instr) → IsRoutine s body code
    → partial bounds (skeleton s.scene.lists code) (length (skeleton s.scene.lists code)) ≡ routine_steps bounds s.setting body

-- ---- of a routine of a program

abbrev pub spot_of : ShapeLists → Image → ℕ → RoutineLists → Setting → Spot
spot_of shape x r y setting = record { scene = scene_of shape x y; number = r; setting = setting; loops = [] }

-- a routine whose code stands for statements that fit is typed
abbrev pub RoutineIsTyped : Type 0
RoutineIsTyped =
    (shape : ShapeLists) (x : Image) (r : ℕ) (y : RoutineLists) (setting : Setting) (body : Statements)
    → IsRoutine (spot_of shape x r y setting) body (code_of x r) → IsTypedRoutine shape x r y

-- and its bound is the steps of the statements
abbrev pub RoutineIsCounted : Type 0
RoutineIsCounted =
    (shape : ShapeLists) (x : Image) (r : ℕ) (y : RoutineLists) (setting : Setting) (body : Statements)
    → IsRoutine (spot_of shape x r y setting) body (code_of x r) → bound x r ≡ routine_steps (bounds_below x r) setting body
