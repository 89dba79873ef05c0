-- What it means that a case fits its dictionary: it has a line, no record has more occurrences than its MaxRecords (which is so of every case, since
-- lines past them are unseen), and each line has its width.
use Rattle.std.specs.Prelude.{◌≡◌, ◌<◌, ◌≤◌, ℕ, max, length}
use Rattle.cse_dict.specs.Dictionary.{DictionaryText}
use Rattle.cse_case.specs.Columns.{LineText}
use Rattle.cse_case.specs.NamedColumns.{least_width, record_len}
use Rattle.cse_case.specs.Run.{line_at}
use Rattle.cse_value.specs.Occurrences.{most_occurrences}
use Rattle.cse_case.specs.Case.{CaseText, places_of, records_of}

-- the width of a line: the greatest of its length in the file, the length of its record, and the last column of id items and record type
abbrev pub line_width : DictionaryText → LineText → ℕ
line_width d line = max line.len (max (least_width d) (record_len d line.record_number))

pub record IsFit (c : CaseText) : Type 0 where
  pub some : 0 < length c.run.lines
  pub occurrences : (r : ℕ) → length (places_of c r) ≤ most_occurrences (records_of c) r
  pub widths : (place : ℕ) → place < length c.run.lines → length (line_at c.run place).columns ≡ line_width c.dictionary (line_at c.run place)
