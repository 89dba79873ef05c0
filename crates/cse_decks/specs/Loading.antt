-- What stands in a deck text, line by line: the heading, then for each array its line and a line for
-- each cell, then the end. The first line that is wrong is the fault.
use Rattle.std.specs.Prelude.{◌≡◌, ℕ, ◌+◌, Bool, true, false, not, ◌&&◌, ◌||◌, ◌==◌, nat_lt, nat_eq, if◌then◌else◌, List, [], ◌∷◌, length, replicate, take, drop, codes, Option, Some, None, Result, Ok, Err, position, slice_get, slice_set, slice_index, unwrap_or, ◌⊎◌}
use Rattle.std.specs.List.{list_all, slice_index_or, starts_with}
use Rattle.std.specs.Option.{option_map_or}
use Rattle.std.specs.Str.{bytes_eq}
use Rattle.std.specs.Char.{is_ascii_digit}
use Rattle.cse_value.specs.declared.number.Num.{Num}
use Rattle.cse_value.specs.declared.number.Num.TheVariants.{NotAppl, Missing, Undef}
use Rattle.cse_value.specs.Field.{field, shown}
use Rattle.cse_image_parts.specs.Image.{Image, ArrayLists}
use Rattle.cse_decks.specs.declared.due.Due.{Due}
use Rattle.cse_decks.specs.declared.due.Due.TheVariants.{Heading, Opening, Cell, Nothing}
use Rattle.cse_decks.specs.declared.error.DeckError.{DeckError}
use Rattle.cse_decks.specs.declared.error.DeckStop.{DeckStop}
use Rattle.cse_decks.specs.declared.error.DeckStop.TheVariants as stops
use Rattle.cse_decks.specs.Store.{Kept, first_kept}
use Rattle.cse_decks.specs.Deck.{heading, ending, array_line}

-- ---- lines

-- the lines of a text, without their LF, and what stands behind the last LF
pub record Cut : Type 0 where
  pub lines : List (List ℕ)
  pub rest : List ℕ

-- a character in front of the first line
abbrev pub joined : ℕ → List (List ℕ) → List ℕ → Cut
joined c [] rest = record { lines = []; rest = c ∷ rest }
joined c (l ∷ ls) rest = record { lines = (c ∷ l) ∷ ls; rest = rest }

abbrev pub cut : List ℕ → Cut
cut [] = record { lines = []; rest = [] }
cut (c ∷ cs) = if c == 10 then record { lines = [] ∷ (cut cs).lines; rest = (cut cs).rest } else joined c (cut cs).lines (cut cs).rest

-- ---- the line of a cell

-- a value, if the line is its text
abbrev pub if_shown : Num → List ℕ → Option Num
if_shown v line = if bytes_eq (shown v) line then Some v else None

-- the value whose text the line is: NOTAPPL, MISSING, DEFAULT, or a whole number of 64 bits, which has no
-- plus sign, no zeros in front and at most 20 characters
unfoldable pub cell_of : List ℕ → Option Num
cell_of line =
    if bytes_eq line (codes "NOTAPPL") then Some NotAppl
    else (if bytes_eq line (codes "MISSING") then Some Missing
    else (if bytes_eq line (codes "DEFAULT") then Some Undef
    else (if nat_lt 20 (length line) then None
    else if_shown (field line None) line)))

-- ---- the line before an array's cells

-- where the first blank stands, or the end
abbrev pub blank_place : List ℕ → ℕ
blank_place text = unwrap_or (position (λ c. c == 32) text) (length text)

-- the first word, and what follows it
unfoldable pub word : List ℕ → List ℕ
word text = take (blank_place text) text

unfoldable pub after_word : List ℕ → List ℕ
after_word text = drop (blank_place text) text

-- digits without zeros in front
abbrev pub is_plain : List ℕ → Bool
is_plain digits = (nat_lt 0 (length digits) && list_all is_ascii_digit digits) && (not (slice_index digits 0 == 48) || (length digits == 1))

-- what follows a blank and a size, if these stand in front
unfoldable pub after_size : List ℕ → Option (List ℕ)
after_size text = if (slice_index text 0 == 32) && is_plain (word (drop 1 text)) then Some (after_word (drop 1 text)) else None

abbrev pub ends_or : (List ℕ → Bool) → List ℕ → Bool
ends_or more rest = (length rest == 0) || more rest

-- a size, and then nothing or more
abbrev pub sized : (List ℕ → Bool) → List ℕ → Bool
sized more text = option_map_or (ends_or more) (after_size text) false

-- one to three sizes
unfoldable pub are_sizes : List ℕ → Bool
are_sizes = sized (sized (sized (λ _. false)))

-- ARRAY, a name without blanks, and one to three sizes, with one blank between them
unfoldable pub is_array_line : List ℕ → Bool
is_array_line line = starts_with nat_eq line (codes "ARRAY ") && (nat_lt 0 (length (word (drop 6 line))) && are_sizes (after_word (drop 6 line)))

-- ---- from line to line

-- what is due next, the cells so far, and which arrays came
pub record Reading : Type 0 where
  pub due : Due
  pub arrays : List (List Num)
  pub came : List Bool

-- a cell that is due, if there is a cell at this place
abbrev pub due_at : ℕ → ℕ → ℕ → Due
due_at array place count = if nat_lt place count then Cell array place else Opening

-- the array has not come yet
abbrev pub is_open : List Bool → ℕ → Bool
is_open came i = option_map_or not (slice_get came i) false

abbrev pub with_due : Reading → Due → Reading
with_due r due = record { due = due; arrays = r.arrays; came = r.came }

-- what is due after a line of the array of this number: its sizes differ (52), or it isn't saved or comes
-- twice (53)
unfoldable pub opening : List (List Num) → List Bool → ℕ → List ℕ → ArrayLists → Result Due ℕ
opening arrays came i line a =
    if bytes_eq line (array_line a)
    then (if a.saved && is_open came i then Ok (due_at i 0 (length (slice_index_or arrays i []))) else Err 53)
    else Err 52

-- the array came
abbrev pub marked : Reading → ℕ → Result Due ℕ → Result Reading ℕ
marked r i (Ok due) = Ok (record { due = due; arrays = r.arrays; came = slice_set r.came i true })
marked r i (Err number) = Err number

abbrev pub opened : Reading → ℕ → List ℕ → ArrayLists → Result Reading ℕ
opened r i line a = marked r i (opening r.arrays r.came i line a)

abbrev pub by_entry : Reading → ℕ → List ℕ → Option ArrayLists → Result Reading ℕ
by_entry r i line None = Err 53
by_entry r i line (Some a) = opened r i line a

abbrev pub by_place : List ArrayLists → Reading → List ℕ → Option ℕ → Result Reading ℕ
by_place arrays r line None = Err 53
by_place arrays r line (Some i) = by_entry r i line (slice_get arrays i)

-- the number of the array that the line names
abbrev pub named : List ArrayLists → List ℕ → Option ℕ
named arrays line = position (λ a. bytes_eq a.name (word (drop 6 line))) arrays

unfoldable pub array_read : List ArrayLists → Reading → List ℕ → Result Reading ℕ
array_read arrays r line = by_place arrays r line (named arrays line)

abbrev pub cell_read : Reading → ℕ → ℕ → Option Num → Result Reading ℕ
cell_read r i place None = Err 51
cell_read r i place (Some v) = Ok (record {
  due = due_at i (place + 1) (length (slice_index_or r.arrays i []));
  arrays = slice_set r.arrays i (slice_set (slice_index_or r.arrays i []) place v);
  came = r.came;
})

abbrev pub heading_read : Reading → List ℕ → Result Reading ℕ
heading_read r line = if bytes_eq line heading then Ok (with_due r Opening) else Err 50

abbrev pub opening_read : List ArrayLists → Reading → List ℕ → Result Reading ℕ
opening_read arrays r line = if bytes_eq line ending then Ok (with_due r Nothing) else (if is_array_line line then array_read arrays r line else Err 50)

-- the line at which a heading, an array or the end, a cell, or nothing is due
abbrev pub by_due : List ArrayLists → Reading → List ℕ → Due → Result Reading ℕ
by_due arrays r line Heading = heading_read r line
by_due arrays r line Opening = opening_read arrays r line
by_due arrays r line (Cell i place) = cell_read r i place (cell_of line)
by_due arrays r line Nothing = Err 50

unfoldable pub line_read : List ArrayLists → Reading → List ℕ → Result Reading ℕ
line_read arrays r line = by_due arrays r line r.due

-- the number of a line that lacks, or has no LF
abbrev pub lacking : Due → ℕ
lacking (Cell i place) = 51
lacking _ = 50

abbrev pub is_done : Due → Bool
is_done Nothing = true
is_done _ = false

abbrev pub fault : ℕ → ℕ → DeckError
fault number line = record { number = number; line = line }

abbrev pub go_on : {A B : Type 0} → ℕ → Result A ℕ → (A → Result B DeckError) → Result B DeckError
go_on n (Ok a) f = f a
go_on n (Err number) f = Err (fault number n)

-- after the last LF: nothing, where nothing is due
abbrev pub ended : Reading → ℕ → List ℕ → Result (List (List Num)) DeckError
ended r n rest = if is_done r.due && (length rest == 0) then Ok r.arrays else Err (fault (lacking r.due) n)

-- the lines from the one of number n on
abbrev pub read_from : List ArrayLists → Reading → ℕ → List (List ℕ) → List ℕ → Result (List (List Num)) DeckError
read_from arrays r n [] rest = ended r n rest
read_from arrays r n (line ∷ lines) rest = go_on n (line_read arrays r line) (λ s. read_from arrays s (n + 1) lines rest)

abbrev pub read_text : List ArrayLists → Reading → ℕ → List ℕ → Result (List (List Num)) DeckError
read_text arrays r n text = read_from arrays r n (cut text).lines (cut text).rest

-- nothing was read
abbrev pub unread : Image → Reading
unread x = record { due = Heading; arrays = (first_kept x).arrays; came = replicate (length x.lists.arrays) false }

abbrev pub with_arrays : Image → Result (List (List Num)) DeckError → Result Kept DeckError
with_arrays x (Ok arrays) = Ok (record { globals = (first_kept x).globals; arrays = arrays })
with_arrays x (Err e) = Err e

-- the first store with the cells that stand in the text, or the first line that is wrong
unfoldable pub loaded : Image → List ℕ → Result Kept DeckError
loaded x text = with_arrays x (read_text x.lists.arrays (unread x) 1 text)

-- ---- answers

abbrev pub out_of_memory : DeckError
out_of_memory = record { number = 90; line = 0 }

abbrev pub error_of : DeckStop → ℕ → DeckError
error_of stops.Memory n = out_of_memory
error_of (stops.Fault number) n = fault number n

-- what a call answered about a line, unless memory ran out
abbrev pub Tells : {A : Type 0} → Result A DeckStop → Result A ℕ → Type 0
Tells (Ok x) answer = answer ≡ Ok x
Tells (Err stops.Memory) answer = Unit {0}
Tells (Err (stops.Fault number)) answer = answer ≡ Err number

-- what reading a line made of a reading, unless memory ran out
abbrev pub Reads : Result (Unit {0}) DeckStop → Result Reading ℕ → Reading → Type 0
Reads (Ok x) answer new = answer ≡ Ok new
Reads (Err stops.Memory) answer new = Unit {0}
Reads (Err (stops.Fault number)) answer new = answer ≡ Err number

-- what a call answered, seen by view, unless memory ran out
abbrev pub Answers : {X Y : Type 0} → (X → Y) → Result X DeckError → Result Y DeckError → Type 0
Answers view (Ok x) answer = answer ≡ Ok (view x)
Answers view (Err e) answer = (e ≡ out_of_memory) ⊎ (answer ≡ Err e)
