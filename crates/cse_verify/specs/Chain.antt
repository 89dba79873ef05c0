-- Calls that wait for one another, and how much they keep together.
use Rattle.std.specs.Prelude.{◌≡◌, ◌<◌, ◌≤◌, ℕ, ◌+◌, List, [], ◌∷◌, length, drop, Some, slice_get}
use Rattle.std.specs.Option.{option_map_or}
use Rattle.cse_value.specs.Shape.{ShapeLists}
use Rattle.cse_image_parts.specs.declared.instruction.Op.TheVariants as ops
use Rattle.cse_image_parts.specs.declared.instruction.Instr.{Instr}
use Rattle.cse_image_parts.specs.Image.{Image, RoutineLists}
use Rattle.cse_code_typing.specs.declared.kind.Kind.{Kind}
use Rattle.cse_code_typing.specs.declared.depth.Depth.{Depth as Cells}
use Rattle.cse_code_typing.specs.Code.{code_of}
use Rattle.cse_code_typing.specs.Skeleton.{skeleton_of}
use Rattle.cse_code_typing.specs.Bracket.{around}
use Rattle.cse_code_typing.specs.Rule.{rule}
use Rattle.cse_code_typing.specs.Typing.{Stacks, IsTypingBelow}
use Rattle.cse_code_typing.specs.Typed.{scene_of}
use Rattle.cse_code_typing.specs.Depth.{no_depth, ◌⊕◌, count_of, locals_depth, parameters_at}
use Rattle.cse_verify.specs.declared.depth.Depth.{Depth}

-- a call: its routine, the place where it stands, and the kinds of what lies on its stack, the topmost first
pub record Calling : Type 0 where
  pub routine : ℕ
  pub place : ℕ
  pub kinds : List Kind

-- it stands at a place of its routine, which has a typing
pub record Stands (s : ShapeLists) (x : Image) (c : Calling) : Type 0 where
  pub routine : RoutineLists
  pub there : slice_get x.lists.routines c.routine ≡ Some routine
  pub stacks : Stacks
  pub typing : IsTypingBelow (rule (scene_of s x routine) (code_of x c.routine)) (code_of x c.routine) (length (code_of x c.routine)) stacks
  pub within : c.place < length (code_of x c.routine)

-- the call that runs has the stack of the typing
pub record Runs (s : ShapeLists) (x : Image) (c : Calling) : Type 0 where
  pub stands : Stands s x c
  pub kinds : c.kinds ≡ stands.stacks c.place

-- a call that waits for one of a routine stands at the call of it; the arguments are gone
pub record Waits (s : ShapeLists) (x : Image) (callee : ℕ) (c : Calling) : Type 0 where
  pub stands : Stands s x c
  pub instr : Instr
  pub at : slice_get (code_of x c.routine) c.place ≡ Some instr
  pub is_call : instr.op ≡ ops.Call
  pub callee_is : instr.c ≡ callee
  pub kinds : c.kinds ≡ drop (parameters_at x.lists.routines callee) (stands.stacks c.place)

-- each waits for the one before it, and the first for one of a routine
abbrev pub AllWait : ShapeLists → Image → ℕ → List Calling → Type 0
AllWait s x callee [] = Unit {0}
AllWait s x callee (c ∷ below) = Waits s x callee c × AllWait s x c.routine below

-- all calls at one time, the innermost first: it runs, and each other one waits for the one before it
abbrev pub IsChain : ShapeLists → Image → List Calling → Type 0
IsChain s x [] = Unit {0}
IsChain s x (c ∷ below) = Runs s x c × AllWait s x c.routine below

-- ---- what they keep

abbrev pub locals_at : List RoutineLists → ℕ → Cells
locals_at routines r = option_map_or (λ y. locals_depth y.locals) (slice_get routines r) no_depth

-- the locals of a call, and its stack
abbrev pub kept_by : Image → Calling → Cells
kept_by x c = locals_at x.lists.routines c.routine ⊕ count_of c.kinds

abbrev pub kept_in : Image → List Calling → Cells
kept_in x [] = no_depth
kept_in x (c ∷ below) = kept_by x c ⊕ kept_in x below

-- the brackets around the places where they stand
abbrev pub open_in : Image → List Calling → ℕ
open_in x [] = 0
open_in x (c ∷ below) = length (around (skeleton_of x c.routine) c.place) + open_in x below

-- the calls keep no more numbers, texts, ordinals and open brackets than the depth says
pub record KeepsToDepth (x : Image) (calls : List Calling) (d : Depth) : Type 0 where
  pub nums : (kept_in x calls).numbers ≤ d.nums
  pub texts : (kept_in x calls).texts ≤ d.texts
  pub ords : (kept_in x calls).ordinals ≤ d.ords
  pub frames : open_in x calls ≤ d.frames
