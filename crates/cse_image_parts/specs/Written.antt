-- How the pieces of a message's text are written, and that nothing else begins at a %.
use Rattle.std.specs.Prelude.{◌≡◌, ℕ, ◌+◌, ◌/◌, ◌%◌, ◌<◌, ◌≤◌, ◌==◌, true, List, [], ◌∷◌, ◌++◌, nat_lt, if◌then◌else◌}
use Rattle.cse_image_parts.specs.declared.placeholders.Piece.{Piece}
use Rattle.cse_image_parts.specs.declared.placeholders.Piece.TheVariants as pieces

-- a width in decimal, and nothing for 0
abbrev pub digits_of : ℕ → List ℕ
digits_of n = if n == 0 then [] else if nat_lt n 10 then (48 + n) ∷ [] else (48 + n / 10) ∷ (48 + n % 10) ∷ []

-- %% for %, %d, %nd or %0nd for a number, %s for a text, and other bytes as they are
abbrev pub written : Piece → List ℕ
written (pieces.Plain c) = if c == 37 then 37 ∷ 37 ∷ [] else c ∷ []
written (pieces.Number width zeros) = 37 ∷ ((if zeros then 48 ∷ [] else []) ++ (digits_of width ++ 100 ∷ []))
written pieces.Text = 37 ∷ 115 ∷ []

-- a width is at most 99, and zeros fill a width that is given
abbrev pub IsWritable : Piece → Type 0
IsWritable (pieces.Plain c) = Unit {0}
IsWritable (pieces.Number width zeros) = (width ≤ 99) × (zeros ≡ true → 0 < width)
IsWritable pieces.Text = Unit {0}

-- the text begins with no piece that is written
abbrev pub BeginsNoPiece : List ℕ → Type 0
BeginsNoPiece text = (piece : Piece) (rest : List ℕ) → IsWritable piece → text ≡ written piece ++ rest → ⊥
