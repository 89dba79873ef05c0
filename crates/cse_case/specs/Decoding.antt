-- A line that was read as columns.
use Rattle.std.specs.Prelude.{◌≡◌, ◌≤◌, ℕ, List, length, take, Option, None}
use Rattle.cse_dict.specs.Dictionary.{DictionaryText, number_of_type}
use Rattle.cse_case.specs.declared.decode.LineStop.{LineStop}
use Rattle.cse_case.specs.declared.decode.LineStop.TheVariants.{Memory, Fault}
use Rattle.cse_case.specs.declared.decode.Beginning.{Beginning}
use Rattle.cse_case.specs.declared.decode.Beginning.TheVariants.{Alike, Apart, Unknown}
use Rattle.cse_case.specs.declared.decode.Head.{Head}
use Rattle.cse_case.specs.Line.{FileLine, is_marked}
use Rattle.cse_case.specs.NamedColumns.{field_at, ids_of, least_width, padded, type_span}
use Rattle.cse_case.specs.Columns.{LineText, line_text}
use Rattle.cse_case.specs.Runs.{line_fault}

-- what holds of the number of a fault
abbrev pub IfFault : (ℕ → Type 0) → LineStop → Type 0
IfFault P Memory = Unit {0}
IfFault P (Fault number) = P number

-- the columns are a text of so many, and blanks behind it
pub record Holds (columns text : List ℕ) (n : ℕ) : Type 0 where
  pub count : n ≡ length text
  pub is : columns ≡ padded (length columns) text

-- a line with these columns
abbrev pub line_with : List ℕ → Head → LineText
line_with columns head = record { columns = columns; len = head.len; ending = head.ending; record_number = head.record_number }

-- the line of the file has no fault by itself, and is this one
pub record IsDecoded (d : DictionaryText) (line : FileLine) (columns : List ℕ) (head : Head) : Type 0 where
  pub sound : line_fault line ≡ None
  pub is : line_with columns head ≡ line_text d line
  pub marked : head.marked ≡ is_marked line
  pub fits : head.len ≤ length columns

-- the columns of a line that came before: they reach as far as each line's, and their record type names this record
pub record IsTyped (d : DictionaryText) (columns : List ℕ) (number : Option ℕ) : Type 0 where
  pub wide : least_width d ≤ length columns
  pub names : number ≡ number_of_type (field_at (type_span d) columns) d

-- the columns begin so beside those
abbrev pub BeginsAs : DictionaryText → Beginning → List ℕ → List ℕ → Type 0
BeginsAs d Alike columns those = take (least_width d) columns ≡ take (least_width d) those
BeginsAs d Apart columns those = ids_of d columns ≡ ids_of d those → ⊥
BeginsAs d Unknown columns those = Unit {0}
