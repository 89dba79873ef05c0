-- One pass over the places of a routine: what the places so far lead to.
use Rattle.std.specs.Prelude.{ℕ, nat_le, Bool, true, false, if◌then◌else◌, List, [], ◌∷◌, Option, Some, None, slice_get, slice_set, option_and_then}
use Rattle.cse_image_parts.specs.declared.instruction.Instr.{Instr}
use Rattle.cse_code_typing.specs.declared.kind.Kind.{Kind}
use Rattle.cse_code_typing.specs.Kinds.{same_kind}
use Rattle.cse_code_typing.specs.Rule.{Edge, Rule}

-- what the places so far lead to, at one place: nothing, a stack, or stacks that differ
pub data Expects : Type 0 where
  Free : Expects
  Is : List Kind → Expects
  Clash : Expects

abbrev pub same_kinds : List Kind → List Kind → Bool
same_kinds [] [] = true
same_kinds (a ∷ as') (b ∷ bs) = if same_kind a b then same_kinds as' bs else false
same_kinds [] (b ∷ bs) = false
same_kinds (a ∷ as') [] = false

-- one expectation for each place
abbrev pub Known : Type 0
Known = List Expects

abbrev pub or_free : Option Expects → Expects
or_free None = Free
or_free (Some x) = x

abbrev pub entry : Known → ℕ → Expects
entry known k = or_free (slice_get known k)

-- the stack that stands at a place, if the edges agree
abbrev pub expected_stack : Expects → Option (List Kind)
expected_stack Free = Some []
expected_stack (Is stack) = Some stack
expected_stack Clash = None

-- one more edge to a place that is still to come
abbrev pub met : Expects → List Kind → Expects
met Free stack = Is stack
met (Is there) stack = if same_kinds there stack then Is there else Clash
met Clash stack = Clash

-- this stack stands at a place that was passed
abbrev pub stands : Expects → List Kind → Bool
stands Free stack = same_kinds [] stack
stands (Is there) stack = same_kinds there stack
stands Clash stack = false

-- the edges of the instruction at place q
abbrev pub merge : ℕ → List Edge → Known → Option Known
merge q [] known = Some known
merge q (e ∷ es) known =
    if nat_le e.0 q
    then (if stands (entry known e.0) e.1 then merge q es known else None)
    else merge q es (slice_set known e.0 (met (entry known e.0) e.1))

-- what is known after the instruction at place q
abbrev pub pass_at : Rule → ℕ → Instr → Known → Option Known
pass_at rule q i known =
    option_and_then (λ (stack : List Kind). option_and_then (λ (es : List Edge). merge q es known) (rule q i stack)) (expected_stack (entry known q))
