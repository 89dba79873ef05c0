-- Instructions with their constants, texts and loop limits by value, where the image has their places in tables.
use Rattle.std.specs.Prelude.{ℕ, ℤ, ◌==◌, if◌then◌else◌, List, [], ◌∷◌, map, min, replicate}
use Rattle.cse_value.specs.declared.number.Num.{Num}
use Rattle.cse_value.specs.declared.number.Num.TheVariants.{Whole, NotAppl, Missing, Undef}
use Rattle.cse_image_parts.specs.declared.instruction.Op.{Op}
use Rattle.cse_image_parts.specs.declared.instruction.Op.TheVariants as ops
use Rattle.cse_syntax_tree.specs.Leaf.{text_of}
use Rattle.cse_compile.specs.declared.wide.Wide as rust
use Rattle.cse_compile.specs.declared.wide.Wide.TheVariants as r

pub data Wide : Type 0 where
  -- a constant
  Constant : (z : ℤ) → Wide
  -- a text, as the bytes of its UTF-8
  Chars : (text : List ℕ) → Wide
  -- the opener of a loop of so many turns at most, and its end
  Turns : (limit end : ℕ) → Wide
  -- any other instruction
  Plain : (op : Op) (a b c : ℕ) → Wide

-- what the type of the program stands for; a text stands there with its quotes
abbrev pub wide : rust.Wide → Wide
wide (r.Constant z) = Constant z
wide (r.Quoted text) = Chars (text_of text.now)
wide r.Blank = Chars []
wide (r.Turns limit end) = Turns limit end
wide (r.Plain op a b c) = Plain op a b c

abbrev pub all_wide : List rust.Wide → List Wide
all_wide code = map wide code

-- ---- instructions by the fields that they have

abbrev pub bare : Op → Wide
bare op = Plain op 0 0 0

abbrev pub with_a : Op → ℕ → Wide
with_a op a = Plain op a 0 0

abbrev pub with_b : Op → ℕ → Wide
with_b op b = Plain op 0 b 0

abbrev pub with_c : Op → ℕ → Wide
with_c op c = Plain op 0 0 c

abbrev pub jump : ℕ → Wide
jump c = with_c ops.Jump c

-- the special value `default`
abbrev pub undefined : Wide
undefined = with_a ops.Special 2

-- a number, or a special value
abbrev pub value : Num → Wide
value (Whole z) = Constant z
value NotAppl = with_a ops.Special 0
value Missing = with_a ops.Special 1
value Undef = undefined

-- a number as an occurrence of the record; to a place where it is none
abbrev pub occurrence : ℕ → ℕ → Wide
occurrence of fail = Plain ops.Occurrence of 0 fail

-- indexes are dropped, so many
abbrev pub pops : ℕ → List Wide
pops n = replicate n (with_a ops.Pop 2)

-- ---- a jump over so many instructions: none over nothing

abbrev pub jump_size : ℕ → ℕ
jump_size n = min n 1

abbrev pub jump_over : ℕ → ℕ → List Wide
jump_over end n = if n == 0 then [] else jump end ∷ []
