-- Which instructions may stand in a routine: calls go to smaller routines, and a routine of the whole run
-- asks for no case.
use Rattle.std.specs.Prelude.{◌≡◌, ◌<◌, ℕ, Bool, true, false, ◌&&◌, ◌||◌, not, nat_lt, List, length, Option, None, Some, slice_get, IsTrue}
use Rattle.cse_image_parts.specs.declared.instruction.Op.{Op}
use Rattle.cse_image_parts.specs.declared.instruction.Op.TheVariants as ops
use Rattle.cse_image_parts.specs.declared.instruction.Instr.{Instr}
use Rattle.cse_image_parts.specs.declared.entries.Ambient.{Ambient}
use Rattle.cse_image_parts.specs.Image.{RoutineLists}
use Rattle.cse_code_typing.specs.Order.{is_run}

-- the instruction needs a case
unfoldable pub needs_case : Op → Bool
needs_case ops.Occurrence = true
needs_case ops.CurrentOccurrence = true
needs_case ops.OccurrenceNumber = true
needs_case ops.TotalOccurrences = true
needs_case ops.IdNumber = true
needs_case ops.IdText = true
needs_case ops.ItemNumber = true
needs_case ops.ItemText = true
needs_case ops.StoreNumber = true
needs_case ops.StoreText = true
needs_case ops.Impute = true
needs_case ops.LoopOccurrences = true
needs_case op = false

-- a routine that is there, and that a routine of this ambient may call
abbrev pub may_call : Bool → Option RoutineLists → Bool
may_call run None = false
may_call run (Some x) = not run || is_run x.ambient

-- a call in routine r, which is one of the whole run or not, to routine c
unfoldable pub calls_well : List RoutineLists → ℕ → Bool → Op → ℕ → Bool
calls_well routines r run ops.Call c = nat_lt c r && may_call run (slice_get routines c)
calls_well routines r run op c = true

-- the instruction may stand in routine r of this ambient
abbrev pub may_stand : List RoutineLists → ℕ → Ambient → Instr → Bool
may_stand routines r ambient i = not (is_run ambient && needs_case i.op) && calls_well routines r (is_run ambient) i.op i.c

-- each instruction at a place below n may stand there
abbrev pub MayStandBelow : List RoutineLists → ℕ → Ambient → List Instr → ℕ → Type 0
MayStandBelow routines r ambient code n = (q : ℕ) (i : Instr) → q < n → slice_get code q ≡ Some i → IsTrue (may_stand routines r ambient i)

abbrev pub AllMayStand : List RoutineLists → ℕ → Ambient → List Instr → Type 0
AllMayStand routines r ambient code = MayStandBelow routines r ambient code (length code)
