-- The first faulty line of a text that is no deck text of a program: a deck text can begin with the lines
-- before it, and none begins with these and the line; or the line lacks, or has no LF.
use Rattle.std.specs.Prelude.{◌≡◌, ℕ, ◌+◌, ◌==◌, false, List, ◌++◌, length, ◌⊎◌, Result, Ok, Err}
use Rattle.std.specs.List.{flat_map, AllByRecursion}
use Rattle.cse_image_parts.specs.Image.{Image}
use Rattle.cse_value.specs.Gathering.{line}
use Rattle.cse_decks.specs.declared.error.DeckError.{DeckError}
use Rattle.cse_decks.specs.Store.{Kept}
use Rattle.cse_decks.specs.DeckText.{IsDeckText}
use Rattle.cse_decks.specs.Loading.{out_of_memory}

-- no LF is in it
abbrev pub IsLine : List ℕ → Type 0
IsLine text = AllByRecursion (λ c. (c == 10) ≡ false) text

-- a deck text of the program begins so
pub record Begins (x : Image) (front : List ℕ) : Type 0 where
  pub more : List ℕ
  pub store : Kept
  pub is : IsDeckText x (front ++ more) store

-- a line is there, and no deck text begins with it after the front
pub record HasFaultyLine (x : Image) (front rest : List ℕ) : Type 0 where
  pub faulty : List ℕ
  pub more : List ℕ
  pub is_line : IsLine faulty
  pub rest_is : rest ≡ line faulty ++ more
  pub none : Begins x (front ++ line faulty) → ⊥

-- no whole line is there, and the text is no deck text
pub record LacksLine (x : Image) (front rest : List ℕ) : Type 0 where
  pub is_line : IsLine rest
  pub none : (s : Kept) → IsDeckText x (front ++ rest) s → ⊥

-- the line of this number, counted from 1, is the first that is faulty
pub record FirstFault (x : Image) (text : List ℕ) (n : ℕ) : Type 0 where
  pub before : List (List ℕ)
  pub rest : List ℕ
  pub are_lines : AllByRecursion IsLine before
  pub text_is : text ≡ flat_map line before ++ rest
  pub number : n ≡ length before + 1
  pub begins : Begins x (flat_map line before)
  pub fault : HasFaultyLine x (flat_map line before) rest ⊎ LacksLine x (flat_map line before) rest

-- an answer that is no store tells the first faulty line, unless memory ran out
abbrev pub TellsFirstFault : Image → List ℕ → Result Kept DeckError → Type 0
TellsFirstFault x text (Ok s) = Unit {0}
TellsFirstFault x text (Err e) = (e ≡ out_of_memory) ⊎ FirstFault x text e.line
