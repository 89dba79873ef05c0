-- A table of stacks in which equal stacks have equal numbers: no two entries are the same.
use Rattle.std.specs.Prelude.{◌≡◌, ℕ, List, [], ◌∷◌, Some}
use Rattle.cse_code_typing.specs.declared.piles.PileEntry.{PileEntry}
use Rattle.cse_code_typing.specs.declared.depth.Depth.{Depth}
use Rattle.cse_code_typing.specs.Piles.{stack_of, entry_of, IsGrown}
use Rattle.cse_code_typing.specs.EntryOrder.{number_of}
use Rattle.cse_code_typing.specs.Depth.{count_of}

-- how many values of each kind the stacks have, the newest first
abbrev pub depths_of : List PileEntry → List Depth
depths_of [] = []
depths_of (e ∷ older) = count_of (e.kind ∷ stack_of older e.below) ∷ depths_of older

-- a table, the depths of its stacks, and the number of each entry
pub record IsShared (table : List PileEntry) (depths : List Depth) (numbers : List (PileEntry × ℕ)) : Type 0 where
  pub grown : IsGrown table
  pub found : (n : ℕ) (e : PileEntry) → entry_of table n ≡ Some e → number_of numbers e ≡ Some n
  pub known : (n : ℕ) (e : PileEntry) → number_of numbers e ≡ Some n → entry_of table n ≡ Some e
  pub counted : depths ≡ depths_of table
