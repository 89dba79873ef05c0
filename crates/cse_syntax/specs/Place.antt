-- The line and the column of a place in a text, both from 1: LF alone ends a line, each character is a column, and a byte
-- order mark at the front is none.
use Rattle.std.specs.Prelude.{ℕ, ◌+◌, ◌-◌, Bool, ◌==◌, if◌then◌else◌, List, [], ◌∷◌, length, take, drop, slice_get, nat_le, nat_lt}
use Rattle.std.specs.List.{count_by}
use Rattle.cse_syntax_tree.specs.declared.token.Token.{Token}
use Rattle.cse_syntax_tree.specs.Leaf.{or_else, is_start}
use Rattle.cse_syntax.specs.Text.{mark_len}

abbrev pub smaller : ℕ → ℕ → ℕ
smaller a b = if nat_lt a b then a else b

-- a text without a mark at its front
abbrev pub front : List ℕ → List ℕ
front text = drop (mark_len text) text

-- the bytes of a text before a place in it, without the mark
abbrev pub before : List ℕ → ℕ → List ℕ
before text place = take (smaller (place - (length text - length (front text))) (length (front text))) (front text)

abbrev pub is_line_end : ℕ → Bool
is_line_end b = b == 10

-- where the last line of these bytes begins: they stand at this place, and the line before them begins at that one
abbrev pub start_from : ℕ → ℕ → List ℕ → ℕ
start_from start i [] = start
start_from start i (b ∷ bs) = start_from (if is_line_end b then i + 1 else start) (i + 1) bs

abbrev pub last_line : List ℕ → List ℕ
last_line bs = drop (start_from 0 0 bs) bs

abbrev pub line_of : List ℕ → ℕ → ℕ
line_of text place = count_by is_line_end (before text place) + 1

abbrev pub column_of : List ℕ → ℕ → ℕ
column_of text place = count_by is_start (last_line (before text place)) + 1

-- the greatest number of 32 bits in place of a greater one
abbrev pub cut : ℕ → ℕ
cut n = if nat_le n 4294967295 then n else 4294967295

-- where a token of a text begins; the end of the text for one that isn't there
abbrev pub start_of : List ℕ → List Token → ℕ → ℕ
start_of text tokens n = or_else (slice_get tokens n) (λ t. t.start) (length text)
