-- A run: lines that follow one another and have the same id columns.
use Rattle.std.specs.Prelude.{◌≡◌, ◌<◌, ℕ, ◌+◌, ◌-◌, ◌||◌, Bool, false, map, List, [], ◌∷◌, ◌++◌, take, drop, length, slice_index_or, Option}
use Rattle.std.specs.List.{flat_map}
use Rattle.cse_dict.specs.Dictionary.{DictionaryText}
use Rattle.cse_case.specs.Line.{FileLine, is_marked}
use Rattle.cse_case.specs.Columns.{LineText, line_text, no_line}
use Rattle.cse_case.specs.Written.{mark_bytes, written_line}

-- a run: its lines, whether the byte order mark stands before the first of them, and the number of that line in the file, from 1
pub record RunText : Type 0 where
  pub lines : List LineText
  pub marked : Bool
  pub first_line : ℕ

-- a line of a run, by its place from 0
abbrev pub line_at : RunText → ℕ → LineText
line_at run i = slice_index_or run.lines i no_line

-- these are the columns of the last line of a run, and the number of its record
pub record IsLastLine (run : RunText) (columns : List ℕ) (number : Option ℕ) : Type 0 where
  pub some : 0 < length run.lines
  pub columns_are : columns ≡ (line_at run (length run.lines - 1)).columns
  pub number_is : number ≡ (line_at run (length run.lines - 1)).record_number

-- the first of some lines begins with the mark
abbrev pub begins_marked : List FileLine → Bool
begins_marked [] = false
begins_marked (line ∷ lines) = is_marked line

-- the run that lines of the file are, of which the first has this number
abbrev pub run_text : DictionaryText → ℕ → List FileLine → RunText
run_text d number lines = record { lines = map (line_text d) lines; marked = begins_marked lines; first_line = number }

-- the bytes of a run as it is written
abbrev pub written_run : RunText → List ℕ
written_run run = mark_bytes run.marked ++ flat_map written_line run.lines

-- the run that begins with this line, which the mark may stand before
abbrev pub run_of : ℕ → Bool → LineText → RunText
run_of number marked line = record { lines = line ∷ []; marked = marked; first_line = number }

-- the run with a line behind the others, which the mark may stand before
abbrev pub with_line : RunText → Bool → LineText → RunText
with_line run marked line = record { lines = run.lines ++ line ∷ []; marked = run.marked || marked; first_line = run.first_line }

-- the columns with others in place of those from a place on
abbrev pub with_columns : ℕ → List ℕ → List ℕ → List ℕ
with_columns at field columns = take at columns ++ (field ++ drop (at + length field) columns)
