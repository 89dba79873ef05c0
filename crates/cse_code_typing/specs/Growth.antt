-- Which routines may make the reports of a run grow, and so take memory: those that reach, by calls, an
-- imputation or a message that is listed. (A message that is only summed up takes none.)
use Rattle.std.specs.Prelude.{◌≡◌, ◌<◌, ℕ, zero, suc, Bool, true, false, not, List, [], ◌∷◌, ◌++◌, Some, slice_get, slice_index_or, ◌⊎◌}
use Rattle.std.specs.List.{list_any}
use Rattle.std.specs.Option.{option_map_or}
use Rattle.cse_image_parts.specs.declared.instruction.Op.{Op}
use Rattle.cse_image_parts.specs.declared.instruction.Op.TheVariants as ops
use Rattle.cse_image_parts.specs.declared.instruction.Instr.{Instr}
use Rattle.cse_image_parts.specs.Image.{Image, MessageLists}
use Rattle.cse_code_typing.specs.Code.{code_of}

-- the message is listed when it is given
abbrev pub is_listed_message : List MessageLists → ℕ → Bool
is_listed_message messages c = option_map_or (λ m. not m.summary) (slice_get messages c) false

-- by opcode and field c, with a table of the smaller routines
unfoldable pub grows_by : List MessageLists → List Bool → Op → ℕ → Bool
grows_by messages table ops.Impute c = true
grows_by messages table ops.Message c = is_listed_message messages c
grows_by messages table ops.Call c = slice_index_or table c false
grows_by messages table op c = false

abbrev pub grows : List MessageLists → List Bool → Instr → Bool
grows messages table i = grows_by messages table i.op i.c

-- the routines below r, in order
unfoldable pub growing_below : Image → ℕ → List Bool
growing_below x zero = []
growing_below x (suc r) = growing_below x r ++ list_any (grows x.lists.messages (growing_below x r)) (code_of x r) ∷ []

-- routine r may make the reports grow
abbrev pub needs_growth : Image → ℕ → Bool
needs_growth x r = list_any (grows x.lists.messages (growing_below x r)) (code_of x r)

-- an instruction at which the reports grow
abbrev pub ReportsGrow : Image → Instr → Type 0
ReportsGrow x i = (i.op ≡ ops.Impute) ⊎ ((i.op ≡ ops.Message) × (is_listed_message x.lists.messages i.c ≡ true))

-- a routine with such an instruction needs growth, and so does one that calls a routine that does
pub record GrowthIsTold : Type 0 where
  pub here : (x : Image) (r p : ℕ) (i : Instr) → slice_get (code_of x r) p ≡ Some i → ReportsGrow x i → needs_growth x r ≡ true
  pub calls : (x : Image) (r p : ℕ) (i : Instr) → slice_get (code_of x r) p ≡ Some i → i.op ≡ ops.Call → i.c < r → needs_growth x i.c ≡ true → needs_growth x r ≡ true
