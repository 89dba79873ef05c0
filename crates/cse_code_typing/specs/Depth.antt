-- The depth of a routine: how many numbers, texts and ordinals (indexes and occurrences) a call of it
-- keeps at most, its own and those of the calls within it.
use Rattle.std.specs.Prelude.{◌≡◌, ℕ, zero, suc, ◌+◌, ◌*◌, ◌≤◌, max, List, [], ◌∷◌, length, map, take, drop, Option, None, Some, slice_get}
use Rattle.std.specs.Option.{option_map_or}
use Rattle.cse_image_parts.specs.declared.instruction.Op.{Op}
use Rattle.cse_image_parts.specs.declared.instruction.Op.TheVariants as ops
use Rattle.cse_image_parts.specs.declared.instruction.Instr.{Instr}
use Rattle.cse_image_parts.specs.declared.entries.Local.{Local}
use Rattle.cse_image_parts.specs.Image.{Image, RoutineLists}
use Rattle.cse_value.specs.Shape.{ShapeLists}
use Rattle.cse_code_typing.specs.declared.kind.Kind.{Kind}
use Rattle.cse_code_typing.specs.declared.kind.Kind.TheVariants.{Number, Text, Index, Occurrence}
use Rattle.cse_code_typing.specs.declared.depth.Depth.{Depth}
use Rattle.cse_code_typing.specs.Code.{code_of}
use Rattle.cse_code_typing.specs.Kinds.{local_kind}
use Rattle.cse_code_typing.specs.Signature.{Scene}
use Rattle.cse_code_typing.specs.Rule.{rule}
use Rattle.cse_code_typing.specs.Typing.{Stacks, IsTypingBelow}
use Rattle.cse_code_typing.specs.Typed.{scene_of}

abbrev pub no_depth : Depth
no_depth = record { numbers = 0; texts = 0; ordinals = 0 }

infixl 6 ◌⊕◌
abbrev pub ◌⊕◌ : Depth → Depth → Depth
a ⊕ b = record { numbers = a.numbers + b.numbers; texts = a.texts + b.texts; ordinals = a.ordinals + b.ordinals }

-- each number is at most n
abbrev pub IsAtMost : ℕ → Depth → Type 0
IsAtMost n d = (d.numbers ≤ n) × (d.texts ≤ n) × (d.ordinals ≤ n)

-- the greater one, for numbers, texts and ordinals each
abbrev pub greater : Depth → Depth → Depth
greater a b = record { numbers = max a.numbers b.numbers; texts = max a.texts b.texts; ordinals = max a.ordinals b.ordinals }

-- one value of a kind
abbrev pub one_of : Kind → Depth
one_of Number = record { numbers = 1; texts = 0; ordinals = 0 }
one_of Text = record { numbers = 0; texts = 1; ordinals = 0 }
one_of (Index n) = record { numbers = 0; texts = 0; ordinals = 1 }
one_of (Occurrence r) = record { numbers = 0; texts = 0; ordinals = 1 }

-- how many values of these kinds are numbers, texts and ordinals
abbrev pub count_of : List Kind → Depth
count_of [] = no_depth
count_of (k ∷ kinds) = one_of k ⊕ count_of kinds

abbrev pub or_none : Option Depth → Depth
or_none None = no_depth
or_none (Some d) = d

-- the depth of a routine, by a table of depths
abbrev pub depth_at : List Depth → ℕ → Depth
depth_at depths r = or_none (slice_get depths r)

abbrev pub parameters_at : List RoutineLists → ℕ → ℕ
parameters_at routines r = option_map_or (λ x. x.parameters) (slice_get routines r) 0

-- a call to routine c before a stack: the stack without the arguments, and what the routine keeps
abbrev pub call_depth : List RoutineLists → List Depth → ℕ → List Kind → Depth
call_depth routines depths c stack = count_of (drop (parameters_at routines c) stack) ⊕ depth_at depths c

-- what is kept at an instruction before a stack: the stack, and at a call what goes on within it
unfoldable pub depth_by : List RoutineLists → List Depth → Op → ℕ → List Kind → Depth
depth_by routines depths ops.Call c stack = greater (count_of stack) (call_depth routines depths c stack)
depth_by routines depths op c stack = count_of stack

abbrev pub place_depth : List RoutineLists → List Depth → Option Instr → List Kind → Depth
place_depth routines depths None stack = no_depth
place_depth routines depths (Some i) stack = depth_by routines depths i.op i.c stack

-- the greatest of the places below n, whose stacks are t
abbrev pub depth_below : List RoutineLists → List Depth → List Instr → Stacks → ℕ → Depth
depth_below routines depths code t zero = no_depth
depth_below routines depths code t (suc q) =
    greater (depth_below routines depths code t q) (place_depth routines depths (slice_get code q) (t q))

-- the locals of a routine
abbrev pub locals_depth : List Local → Depth
locals_depth locals = count_of (map local_kind locals)

-- a routine of this code with these stacks: its locals, and the greatest of its places
abbrev pub routine_depth : Scene → List Depth → List Instr → Stacks → Depth
routine_depth s depths code t = locals_depth s.routine.locals ⊕ depth_below s.lists.routines depths code t (length code)

-- The depth of a routine, by the depths of those that it calls: that of its typing. (All its typings
-- have the same stacks.)
abbrev pub IsDepth : Scene → List Depth → List Instr → Depth → Type 0
IsDepth s depths code d =
    (t : Stacks) → IsTypingBelow (rule s code) code (length code) t → d ≡ routine_depth s depths code t

-- the greatest of the places below n of some code with a typing
abbrev pub IsDepthBelow : Scene → List Depth → List Instr → ℕ → Depth → Type 0
IsDepthBelow s depths code n d =
    (m : ℕ) (t : Stacks) → n ≤ m → IsTypingBelow (rule s code) code m t → d ≡ depth_below s.lists.routines depths code t n

-- a table of the depths of the first routines of a program: each by those of the routines before it
abbrev pub AreDepths : ShapeLists → Image → List Depth → Type 0
AreDepths s x depths =
    (r : ℕ) (y : RoutineLists) (d : Depth) → slice_get x.lists.routines r ≡ Some y → slice_get depths r ≡ Some d
    → IsDepth (scene_of s x y) (take r depths) (code_of x r) d

-- what a routine may keep beside what a callee keeps: 255 locals, and one value for each of 1,000,000 places
abbrev pub most_kept : ℕ
most_kept = 1000255

-- no routine of a table keeps more than so much for each routine of the table
abbrev pub KeepFew : List Depth → Type 0
KeepFew depths = (r : ℕ) (d : Depth) → slice_get depths r ≡ Some d → IsAtMost (most_kept * length depths) d

-- the greatest depth of a table
abbrev pub greatest : List Depth → Depth
greatest [] = no_depth
greatest (d ∷ depths) = greater d (greatest depths)
