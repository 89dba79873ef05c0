-- Worked rows of the placeholders of messages.
use Rattle.std.specs.Prelude.{◌≡◌, ℕ, Bool, true, false, List, [], ◌∷◌, length, map, codes}
use Rattle.cse_image_parts.specs.Placeholders.{pieces_of, message_kinds, has_few_placeholders}
use Rattle.cse_image_parts.specs.declared.placeholders.ArgumentKind.TheVariants as kinds
use Rattle.cse_image_parts.specs.declared.placeholders.Piece.{Piece}
use Rattle.cse_image_parts.specs.declared.placeholders.Piece.TheVariants as pieces
use Rattle.cse_test_checks.specs.Rows.{Gives}

abbrev pub number : ℕ → Piece
number width = pieces.Number width false

abbrev pub zeros : ℕ → Piece
zeros width = pieces.Number width true

abbrev pub plain : List ℕ → List Piece
plain text = map (λ c. pieces.Plain c) text

abbrev pub marked : List (List ℕ × List Piece)
marked =
    (codes "", []) ∷ (codes "%d", number 0 ∷ []) ∷ (codes "%3d", number 3 ∷ []) ∷ (codes "%03d", zeros 3 ∷ []) ∷ (codes "%99d", number 99 ∷ []) ∷ (codes "%099d", zeros 99 ∷ [])
    ∷ (codes "%10d", number 10 ∷ []) ∷ (codes "%010d", zeros 10 ∷ []) ∷ (codes "%s", pieces.Text ∷ []) ∷ (codes "%%", plain (codes "%")) ∷ (codes "%%d", plain (codes "%d"))
    ∷ (codes "%%%d", pieces.Plain 37 ∷ number 0 ∷ []) ∷ (codes "a%d%s", pieces.Plain 97 ∷ number 0 ∷ pieces.Text ∷ [])
    ∷ (codes "%3%d", pieces.Plain 37 ∷ pieces.Plain 51 ∷ number 0 ∷ []) ∷ (codes "%0%%", plain (codes "%0%")) ∷ []

-- a % that begins no placeholder stands for itself, and what follows is read from there on
abbrev pub unmarked : List (List ℕ)
unmarked =
    codes "%" ∷ codes "%x" ∷ codes "%0d" ∷ codes "%00d" ∷ codes "%100d" ∷ codes "%001d" ∷ codes "%0100d" ∷ codes "%3s" ∷ codes "%03s" ∷ codes "%3"
    ∷ codes "%-3d" ∷ codes "% d" ∷ codes "%D" ∷ codes "d%" ∷ []

abbrev pub counted : List (List ℕ × ℕ)
counted = (codes "%% 50%", 0) ∷ (codes "adults %d of %s", 2) ∷ []

abbrev pub few : List (List ℕ × Bool)
few = (codes "%d%d%d%d%d%d%d%d%s%s%s%s%s%s%s%s%%", true) ∷ (codes "%d%d%d%d%d%d%d%d%s%s%s%s%s%s%s%s%%%d", false) ∷ []

pub record PlaceholdersAreWorked : Type 0 where
  pub marks_are : Gives pieces_of marked
  pub others_are_plain : map pieces_of unmarked ≡ map plain unmarked
  pub counts_are : Gives (λ text. length (message_kinds text)) counted
  pub kinds_are : message_kinds (codes "adults %d of %s") ≡ kinds.Number ∷ kinds.Text ∷ []
  pub few_are : Gives has_few_placeholders few
