-- The pairs of a `Value` line: pieces between blanks, up to the first `;`, both outside single quotes.
use Rattle.std.specs.Prelude.{ℕ, suc, ◌+◌, ◌-◌, ◌<◌, ◌&&◌, ◌||◌, ◌==◌, Bool, true, false, not, List, [], ◌∷◌, ◌++◌, length, take, drop, slice_index, slice_range, position, Option, None, Some, if◌then◌else◌, nat_le, min, fold, ℤ, int_le, codes}
use Rattle.std.specs.List.{list_all, list_any, onto_first}
use Rattle.cse_sections.specs.Text.{is_same}
use Rattle.cse_sections.specs.Sections.{EntryText, SectionText}
use Rattle.cse_sections.specs.Number.{whole_of}
use Rattle.cse_dict.specs.declared.keys.DataType.{DataType}
use Rattle.cse_dict.specs.declared.keys.DataType.TheVariants.{Numeric, Alpha, Neither}
use Rattle.cse_dict.specs.declared.pairs.Pair.{Pair}
use Rattle.cse_dict.specs.declared.pairs.Pair.TheVariants.{Nothing, Range, NoNumber, Skipped}
use Rattle.cse_dict.specs.declared.rows.NumberSpan.{NumberSpan}

-- one more, counted up to one past a limit
abbrev pub one_more : ℕ → ℕ → ℕ
one_more limit n = min (n + 1) (limit + 1)

-- whether quotes are open behind a byte
abbrev pub open_after : Bool → ℕ → Bool
open_after is_open b = if b == 39 then not is_open else is_open

-- the pieces of a text; an empty piece stands for nothing
abbrev pub pieces_from : Bool → List ℕ → List (List ℕ)
pieces_from is_open [] = []
pieces_from is_open (b ∷ bs) =
    if not is_open && b == 59 then [] ∷ [] else
    if not is_open && b == 32 then [] ∷ pieces_from false bs else
    onto_first b (pieces_from (open_after is_open b) bs)

-- how many bytes a first piece has
abbrev pub piece_len : Bool → List ℕ → ℕ
piece_len is_open [] = 0
piece_len is_open (b ∷ bs) = if not is_open && (b == 59 || b == 32) then 0 else suc (piece_len (open_after is_open b) bs)

unfoldable pub pieces_of : List ℕ → List (List ℕ)
pieces_of value = pieces_from false value

-- a text in single quotes, with none between them
unfoldable pub is_quoted : List ℕ → Bool
is_quoted piece =
    nat_le 2 (length piece) && slice_index piece 0 == 39 && slice_index piece (length piece - 1) == 39
    && not (list_any (λ b. b == 39) (slice_range piece 1 (length piece - 1)))

-- a quoted text on an item of this type; on a numeric item it may hold blanks alone
unfoldable pub quoted_pair : DataType → List ℕ → Pair
quoted_pair Alpha piece = NoNumber
quoted_pair Numeric piece = if list_all (λ b. b == 32) (slice_range piece 1 (length piece - 1)) then NoNumber else Skipped
quoted_pair Neither piece = Skipped

-- `n:m` with n at most m
abbrev pub range_between : Option ℤ → Option ℤ → Pair
range_between None high = Skipped
range_between (Some low) None = Skipped
range_between (Some low) (Some high) = if int_le low high then Range low high else Skipped

-- `n` or `n:m`
abbrev pub range_by : Option ℕ → List ℕ → Pair
range_by None piece = range_between (whole_of piece) (whole_of piece)
range_by (Some i) piece = range_between (whole_of (take i piece)) (whole_of (drop (i + 1) piece))

unfoldable pub range_of : List ℕ → Pair
range_of piece = range_by (position (λ b. b == 58) piece) piece

-- what a piece is, on an item of this type
unfoldable pub pair_of : DataType → List ℕ → Pair
pair_of data_type piece = if length piece == 0 then Nothing else if is_quoted piece then quoted_pair data_type piece else range_of piece

-- a pair counts unless it is skipped
abbrev pub is_counted : Pair → Bool
is_counted Nothing = false
is_counted (Range low high) = true
is_counted NoNumber = true
is_counted Skipped = false

-- the pairs so far, counted up to one past the limit
unfoldable pub with_counted : DataType → ℕ → List ℕ → ℕ
with_counted data_type n piece = if is_counted (pair_of data_type piece) then one_more 100000 n else n

unfoldable pub pairs_after : DataType → ℕ → List ℕ → ℕ
pairs_after data_type n value = fold (with_counted data_type) n (pieces_of value)

-- the line of a value set that holds a row
unfoldable pub is_value : EntryText → Bool
is_value e = is_same e.key (codes "Value")

-- the rows of a value set: its pairs of numbers in order, each with its row, counted from 0 (up to the limit of rows)
pub record RowsText : Type 0 where
  pub spans : List NumberSpan
  pub rows : ℕ
  pub partial : Bool

abbrev pub with_pair : RowsText → Pair → RowsText
with_pair r Nothing = r
with_pair r (Range low high) = record r { spans = r.spans ++ record { low = low; high = high; row = min r.rows 65534 } ∷ [] }
with_pair r NoNumber = r
with_pair r Skipped = record r { partial = true }

unfoldable pub with_piece : DataType → RowsText → List ℕ → RowsText
with_piece data_type r piece = with_pair r (pair_of data_type piece)

abbrev pub with_pieces : DataType → RowsText → List ℕ → RowsText
with_pieces data_type r value = fold (with_piece data_type) r (pieces_of value)

-- one row more; rows count up to one past the limit
abbrev pub with_row : DataType → RowsText → List ℕ → RowsText
with_row data_type r value = let filled = with_pieces data_type r value in record filled { rows = one_more 65534 filled.rows }

unfoldable pub with_value : DataType → RowsText → EntryText → RowsText
with_value data_type r e = if is_value e then with_row data_type r e.value else r

abbrev pub no_rows : RowsText
no_rows = record { spans = []; rows = 0; partial = false }

unfoldable pub rows_of : DataType → SectionText → RowsText
rows_of data_type section = fold (with_value data_type) no_rows section.entries

-- all pairs stand in the first rows
abbrev pub RowsBelow : ℕ → List NumberSpan → Type 0
RowsBelow n [] = Unit {0}
RowsBelow n (s ∷ ss) = (s.row < n) × RowsBelow n ss
