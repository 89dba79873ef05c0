-- What the meaning of a tree depends on besides the case, the store and the reports.
use Rattle.std.specs.Prelude.{ℕ, ◌==◌, List, [], ◌∷◌, if◌then◌else◌}
use Rattle.cse_value.specs.declared.number.Num.{Num}
use Rattle.cse_dict.specs.Dictionary.{DictionaryText}
use Rattle.cse_steps.specs.State.{World}

-- The dictionary; the sizes of each array; the occurrence that the event is of, 0 where it is of none; and the open
-- `for`s, the innermost first, each as its record and the occurrence of its turn.
pub record Context : Type 0 where
  pub dictionary : DictionaryText
  pub arrays : List (List ℕ)
  pub event : ℕ
  pub loops : List (ℕ × ℕ)

-- in a turn of a `for`
abbrev pub within : Context → ℕ → ℕ → Context
within c of o = record c { loops = (of, o) ∷ c.loops }

-- the occurrence of the innermost `for` over the record; 0 outside of them
abbrev pub turn_of : ℕ → List (ℕ × ℕ) → ℕ
turn_of of [] = 0
turn_of of (x ∷ xs) = if x.0 == of then x.1 else turn_of of xs

-- what a function has of its own: its parameters, and its result
pub record Locals : Type 0 where
  pub parameters : List Num
  pub result : Num

-- a value, and what the calls in it left
abbrev pub Valued : Type 0 → Type 0
Valued X = X × World

-- the functions by their numbers: from arguments to a value
abbrev pub Functions : Type 0
Functions = ℕ → List Num → World → Valued Num
