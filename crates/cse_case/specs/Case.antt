-- A case: the lines of one run of a data file, read by a dictionary; what is read of an item in a line, and the case after a write into an item of
-- an occurrence.
use Rattle.std.specs.Prelude.{◌<◌, ◌≤◌, ℕ, ◌-◌, List, length, map, slice_index, slice_set, Option}
use Rattle.cse_value.specs.declared.shape.RecordShape.{RecordShape}
use Rattle.cse_value.specs.declared.shape.ItemShape.{ItemShape}
use Rattle.cse_value.specs.declared.number.Num.{Num}
use Rattle.cse_value.specs.Field.{field, put, put_text}
use Rattle.cse_dict.specs.Dictionary.{DictionaryText, code_at, zero_fill_at, shape_of}
use Rattle.cse_dict.specs.declared.lookup.Unseen.{Unseen}
use Rattle.cse_case.specs.Line.{FileLine}
use Rattle.cse_case.specs.NamedColumns.{ids_of}
use Rattle.cse_case.specs.Columns.{LineText}
use Rattle.cse_case.specs.Run.{RunText, line_at, run_text, with_columns}
use Rattle.cse_case.specs.Seen.{occurrence_places, unseen_of}
use Rattle.cse_case.specs.Field.{item_at, field_of}

-- a case: its dictionary, its id columns as they were read, and its lines
pub record CaseText : Type 0 where
  pub dictionary : DictionaryText
  pub ids : List ℕ
  pub run : RunText

-- the records and the items of its dictionary
abbrev pub records_of : CaseText → List RecordShape
records_of c = (shape_of c.dictionary).records

abbrev pub items_of : CaseText → List ItemShape
items_of c = (shape_of c.dictionary).items

-- the record of each line
abbrev pub types_of : List LineText → List (Option ℕ)
types_of lines = map (λ l. l.record_number) lines

-- the case of lines of the file, of which the first has this number
abbrev pub case_of : DictionaryText → ℕ → List FileLine → CaseText
case_of d number lines = record { dictionary = d; ids = ids_of d (line_at (run_text d number lines) 0).columns; run = run_text d number lines }

-- the places of the occurrences of a record
unfoldable pub places_of : CaseText → ℕ → List ℕ
places_of c r = occurrence_places (records_of c) r (types_of c.run.lines)

-- such an occurrence is there, counted from 1
abbrev pub IsOccurrence : CaseText → ℕ → ℕ → Type 0
IsOccurrence c r o = (0 < o) × (o ≤ length (places_of c r))

-- the place of its line, from 0
unfoldable pub place_of : CaseText → ℕ → ℕ → ℕ
place_of c r o = slice_index (places_of c r) (o - 1)

-- the item's columns in the line at a place
abbrev pub columns_at : CaseText → ℕ → ℕ → List ℕ
columns_at c place item = field_of (item_at (items_of c) item) (line_at c.run place).columns

-- the number in the item's columns, and the text in them
unfoldable pub number_at : CaseText → ℕ → ℕ → Num
number_at c place item = field (columns_at c place item) (code_at c.dictionary item)

unfoldable pub text_at : CaseText → ℕ → ℕ → List ℕ
text_at c place item = columns_at c place item

-- the unseen lines, with their numbers in the file
abbrev pub unseen_lines : CaseText → List (ℕ × Unseen)
unseen_lines c = unseen_of (records_of c) c.run.first_line (types_of c.run.lines)

-- the case with these columns in place of an item's in the line at a place, and nothing else
abbrev pub with_item : CaseText → ℕ → ℕ → List ℕ → CaseText
with_item c place item columns = record c {
  run = record c.run {
    lines = slice_set c.run.lines place (record (line_at c.run place) { columns = with_columns ((item_at (items_of c) item).start - 1) columns (line_at c.run place).columns });
  };
}

-- the case after a number, or a text, was written into an item of an occurrence: into Len columns from Start on
unfoldable pub with_number : CaseText → ℕ → ℕ → ℕ → Num → CaseText
with_number c r o item value =
    with_item c (place_of c r o) item (put (item_at (items_of c) item).len value (zero_fill_at c.dictionary item) (code_at c.dictionary item))

unfoldable pub with_text : CaseText → ℕ → ℕ → ℕ → List ℕ → CaseText
with_text c r o item text = with_item c (place_of c r o) item (put_text (item_at (items_of c) item).len text)
