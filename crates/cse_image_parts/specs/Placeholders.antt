-- The pieces of a message's text: bytes that stand for themselves, and placeholders, each of which
-- takes the next argument. A % stands for itself but where it begins one of these: %d, %nd and %0nd
-- with n from 1 to 99 without leading zeros, %s, and %%, which stands for %.
-- A text is taken as the bytes of its UTF-8: what counts is ASCII, and so the bytes of other
-- characters stand for themselves.
use Rattle.std.specs.Prelude.{ℕ, zero, suc, ◌+◌, ◌*◌, ◌-◌, Bool, true, false, ◌&&◌, ◌==◌, List, [], ◌∷◌, length, take, drop, Option, None, Some, option_map, nat_le, if◌then◌else◌}
use Rattle.std.specs.List.{filter_map, prefix_len}
use Rattle.std.specs.Option.{unwrap_or}
use Rattle.cse_image_parts.specs.Limits.{most_placeholders}
use Rattle.cse_image_parts.specs.declared.placeholders.ArgumentKind.{ArgumentKind}
use Rattle.cse_image_parts.specs.declared.placeholders.ArgumentKind.TheVariants as kinds
use Rattle.cse_image_parts.specs.declared.placeholders.Piece.{Piece}
use Rattle.cse_image_parts.specs.declared.placeholders.Piece.TheVariants as pieces

abbrev pub is_digit : ℕ → Bool
is_digit c = nat_le 48 c && nat_le c 57

-- n from 1 to 99 without leading zeros
abbrev pub width_of : List ℕ → Option ℕ
width_of [] = None
width_of (a ∷ []) = if a == 48 then None else Some (a - 48)
width_of (a ∷ b ∷ []) = if a == 48 then None else Some (10 * (a - 48) + (b - 48))
width_of (a ∷ b ∷ c ∷ more) = None

-- the placeholder of a number with these digits before its d: none, n, or 0 and n
abbrev pub number_of : List ℕ → Option Piece
number_of [] = Some (pieces.Number 0 false)
number_of (a ∷ digits) = if a == 48 then option_map (λ n. pieces.Number n true) (width_of digits) else option_map (λ n. pieces.Number n false) (width_of (a ∷ digits))

-- the piece of a %, the digits after it, and what follows them
abbrev pub piece_of : List ℕ → List ℕ → Option Piece
piece_of digits [] = None
piece_of [] (c ∷ rest) = if c == 100 then number_of [] else if c == 115 then Some pieces.Text else if c == 37 then Some (pieces.Plain 37) else None
piece_of (a ∷ digits) (c ∷ rest) = if c == 100 then number_of (a ∷ digits) else None

-- what a % and the bytes after it begin, and how many of those belong to it
abbrev pub marked : List ℕ → Option (Piece × ℕ)
marked rest = let count = prefix_len is_digit rest in option_map (λ piece. (piece, count + 1)) (piece_of (take count rest) (drop count rest))

-- the piece that a byte and those after it begin, and how many of those belong to it
abbrev pub piece_at : ℕ → List ℕ → Piece × ℕ
piece_at c rest = if c == 37 then unwrap_or (marked rest) (pieces.Plain 37, 0) else (pieces.Plain c, 0)

-- the pieces after so many bytes, which belong to the piece before
unfoldable pub pieces_after : ℕ → List ℕ → List Piece
pieces_after skip [] = []
pieces_after zero (c ∷ rest) = (piece_at c rest).0 ∷ pieces_after (piece_at c rest).1 rest
pieces_after (suc skip) (c ∷ rest) = pieces_after skip rest

-- the pieces of a text: each begins where the one before ends
abbrev pub pieces_of : List ℕ → List Piece
pieces_of text = pieces_after 0 text

-- the argument that a piece takes
abbrev pub argument_of : Piece → Option ArgumentKind
argument_of (pieces.Plain c) = None
argument_of (pieces.Number width zeros) = Some kinds.Number
argument_of pieces.Text = Some kinds.Text

-- the kinds of the arguments that a message's text takes, in order
abbrev pub message_kinds : List ℕ → List ArgumentKind
message_kinds text = filter_map argument_of (pieces_of text)

-- at most 16 placeholders that take an argument
abbrev pub has_few_placeholders : List ℕ → Bool
has_few_placeholders text = nat_le (length (message_kinds text)) most_placeholders
