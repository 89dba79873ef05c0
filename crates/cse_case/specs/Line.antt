-- The lines of a data file, as its bytes are cut: a line ends with LF or CRLF, or at the end of the file; another CR is a column. A byte order
-- mark at the front of the file is carried and is no column.
use Rattle.std.specs.Prelude.{ℕ, ◌-◌, Bool, false, ◌||◌, ◌&&◌, map, drop, ◌==◌, nat_lt, List, [], ◌∷◌, length, take, slice_index, filter, if◌then◌else◌}
use Rattle.std.specs.List.{onto_first}
use Rattle.cse_case.specs.declared.line.Ending.{Ending}
use Rattle.cse_case.specs.declared.line.Ending.TheVariants.{FileEnd, Feed, ReturnFeed}

-- the bytes, cut after each line feed
abbrev pub pieces_of : List ℕ → List (List ℕ)
pieces_of [] = []
pieces_of (b ∷ bs) = if b == 10 then (b ∷ []) ∷ pieces_of bs else onto_first b (pieces_of bs)

-- the last byte is this one
abbrev pub is_last : List ℕ → ℕ → Bool
is_last bytes byte = slice_index bytes (length bytes - 1) == byte

-- a piece with its line feed
abbrev pub is_whole : List ℕ → Bool
is_whole piece = is_last piece 10

-- how a line ends
abbrev pub ending_of : List ℕ → Ending
ending_of piece = if is_whole piece then (if slice_index piece (length piece - 2) == 13 then ReturnFeed else Feed) else FileEnd

-- the bytes of an end
abbrev pub end_bytes : Ending → List ℕ
end_bytes FileEnd = []
end_bytes Feed = 10 ∷ []
end_bytes ReturnFeed = 13 ∷ 10 ∷ []

-- a line of the file: whether it stands at the front of the file, and its bytes
abbrev pub FileLine : Type 0
FileLine = Bool × List ℕ

-- the bytes of a line before its end
abbrev pub before_end : List ℕ → List ℕ
before_end piece = take (length piece - length (end_bytes (ending_of piece))) piece

-- bytes that begin with the byte order mark
abbrev pub has_mark : List ℕ → Bool
has_mark [] = false
has_mark (a ∷ []) = false
has_mark (a ∷ b ∷ []) = false
has_mark (a ∷ b ∷ c ∷ bytes) = a == 239 && b == 187 && c == 191

-- a line that begins with the mark, at the front of the file
abbrev pub is_marked : FileLine → Bool
is_marked line = (line.0) && has_mark (before_end (line.1))

-- without the mark, at the front
abbrev pub without_mark : Bool → List ℕ → List ℕ
without_mark front bytes = if front && has_mark bytes then drop 3 bytes else bytes

-- a line without the mark and its end
abbrev pub text_of : FileLine → List ℕ
text_of line = without_mark (line.0) (before_end (line.1))

-- so long that it is above 262,144 bytes whatever follows: a CR at the very end may begin an end
abbrev pub is_excessive : FileLine → Bool
is_excessive line = nat_lt 262144 (length (without_mark (line.0) (line.1)) - (if is_last (line.1) 13 then 1 else 0))

-- whether a piece counts as a line: the last one may lack its end, and then it counts where the file has ended, or where it is too long
abbrev pub counts : Bool → FileLine → Bool
counts ended line = ended || is_whole (line.1) || is_excessive line

-- the pieces as lines, the first one at the front of the file or not
abbrev pub flagged : Bool → List (List ℕ) → List FileLine
flagged front [] = []
flagged front (piece ∷ pieces) = (front, piece) ∷ map (λ p. (false, p)) pieces

-- the lines of bytes after which the file has ended or breaks off
unfoldable pub lines_in : Bool → Bool → List ℕ → List FileLine
lines_in front ended bytes = filter (counts ended) (flagged front (pieces_of bytes))
