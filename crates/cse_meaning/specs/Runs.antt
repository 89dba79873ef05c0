-- What the laws of runs speak of: a run from one state to another, and code that stands in a routine.
use Rattle.std.specs.Prelude.{◌≡◌, ℕ, ◌+◌, List, [], ◌∷◌, Some, slice_get}
use Rattle.cse_image_parts.specs.declared.instruction.Instr.{Instr}
use Rattle.cse_image_parts.specs.Image.{Lists, RoutineLists}
use Rattle.cse_code_typing.specs.Code.{code_of}
use Rattle.cse_verify.specs.Verified.{VerifiedProgram}
use Rattle.cse_compile.specs.Wide.{Wide}
use Rattle.cse_meaning.specs.Stands.{Stands}
use Rattle.cse_steps.specs.Cell.{Cell}
use Rattle.cse_steps.specs.State.{Open, Call, World, State}
use Rattle.cse_steps.specs.Run.{run}

-- a run leads from one state to the other
pub record Goes (v : VerifiedProgram) (s t : State) : Type 0 where
  pub steps : ℕ
  pub by : run v steps s ≡ Some t

-- one run, and then the other
abbrev pub RunsJoin : Type 0
RunsJoin = (v : VerifiedProgram) (s t u : State) → Goes v s t → Goes v t u → Goes v s u

-- ---- where a routine stands

-- a call of a routine above others: its place, its stack, and what calls share; its locals and brackets stay in an expression
pub record Spot : Type 0 where
  pub program : VerifiedProgram
  pub number : ℕ
  pub routine : RoutineLists
  pub locals : List Cell
  pub opens : List Open
  pub below : List Call

abbrev pub at : Spot → ℕ → List Cell → World → State
at s p cells w = record { calls = record { routine = s.number; place = p; locals = s.locals; cells = cells; opens = s.opens } ∷ s.below; world = w }

abbrev pub IsThere : Spot → Type 0
IsThere s = slice_get s.program.image.lists.routines s.number ≡ Some s.routine

-- instructions that stand for these are there, from a place of the code on
abbrev pub StandAt : Lists → List Instr → ℕ → List Wide → Type 0
StandAt x code p [] = Unit {0}
StandAt x code p (w ∷ ws) = ((i : Instr) × (slice_get code p ≡ Some i) × Stands x i w) × StandAt x code (p + 1) ws

abbrev pub HasCode : Spot → ℕ → List Wide → Type 0
HasCode s p ws = StandAt s.program.image.lists (code_of s.program.image s.number) p ws
