-- A line that was read and not set is written as it came, byte for byte, whatever was set in others.
use Rattle.std.specs.Prelude.{◌≡◌, ◌++◌, None}
use Rattle.cse_dict.specs.Dictionary.{DictionaryText}
use Rattle.cse_case.specs.Line.{FileLine, is_marked}
use Rattle.cse_case.specs.Columns.{line_text}
use Rattle.cse_case.specs.Written.{mark_bytes, written_line}
use Rattle.cse_case.specs.Runs.{line_fault}

-- A line of the file without a fault: the mark, where it stands before the line, and what is written of its columns and its end are its bytes.
abbrev pub UntouchedLineStays : Type 0
UntouchedLineStays = (d : DictionaryText) (line : FileLine) → line_fault line ≡ None → mark_bytes (is_marked line) ++ written_line (line_text d line) ≡ line.1
