-- A line as columns: one character each, padded with blanks to the width of the line.
use Rattle.std.specs.Prelude.{ℕ, List, [], length, Option, None}
use Rattle.std.specs.Str.{chars}
use Rattle.cse_dict.specs.Dictionary.{DictionaryText}
use Rattle.cse_case.specs.declared.line.Ending.{Ending}
use Rattle.cse_case.specs.declared.line.Ending.TheVariants.{FileEnd}
use Rattle.cse_case.specs.Line.{FileLine, ending_of, text_of}
use Rattle.cse_case.specs.NamedColumns.{ids_of, padded, record_of, width_of}

-- a line: its columns with the blanks behind them, how many columns it had in the file, how it ends, and the number of the record that its type
-- names
pub record LineText : Type 0 where
  pub columns : List ℕ
  pub len : ℕ
  pub ending : Ending
  pub record_number : Option ℕ

-- no line
abbrev pub no_line : LineText
no_line = record { columns = []; len = 0; ending = FileEnd; record_number = None }

-- the columns of a line of the file: its characters
abbrev pub columns_of : FileLine → List ℕ
columns_of line = chars (text_of line)

-- a line of the file, under a dictionary
unfoldable pub line_text : DictionaryText → FileLine → LineText
line_text d line = record {
  columns = padded (width_of d (columns_of line)) (columns_of line);
  len = length (columns_of line);
  ending = ending_of (line.1);
  record_number = record_of d (columns_of line);
}

-- the id columns of a line of the file
unfoldable pub id_of : DictionaryText → FileLine → List ℕ
id_of d line = ids_of d (line_text d line).columns
