-- How a line is written: its columns without trailing blanks past its length in the file, in UTF-8, and then its own end.
use Rattle.std.specs.Prelude.{◌≡◌, Bool, true, false, ℕ, ◌==◌, List, [], ◌∷◌, ◌++◌, take, drop, encode_utf8_all, if◌then◌else◌}
use Rattle.std.specs.List.{flat_map}
use Rattle.cse_case.specs.Line.{end_bytes}
use Rattle.cse_case.specs.declared.line.Line.{Line}
use Rattle.cse_case.specs.Columns.{LineText}
use Rattle.cse_case.specs.Laid.{IsLaid, laid_lines}

-- the bytes of the mark, where it is there
abbrev pub mark_bytes : Bool → List ℕ
mark_bytes true = 239 ∷ 187 ∷ 191 ∷ []
mark_bytes false = []

-- a column before columns that have no blank at their end
abbrev pub onto_trimmed : ℕ → List ℕ → List ℕ
onto_trimmed c [] = if c == 32 then [] else c ∷ []
onto_trimmed c (d ∷ ds) = c ∷ d ∷ ds

-- columns without the blanks at their end
abbrev pub without_blanks : List ℕ → List ℕ
without_blanks [] = []
without_blanks (c ∷ cs) = onto_trimmed c (without_blanks cs)

-- the columns that are written of a line that had so many: no blanks at the end past these
abbrev pub kept_columns : ℕ → List ℕ → List ℕ
kept_columns len columns = take len columns ++ without_blanks (drop len columns)

-- the bytes of a line as it is written
unfoldable pub written_line : LineText → List ℕ
written_line line = encode_utf8_all (kept_columns line.len line.columns) ++ end_bytes line.ending

-- lines that lie in these columns, and are written as these bytes
pub record IsWhole (columns : List ℕ) (lines : List Line) (bytes : List ℕ) : Type 0 where
  pub laid : IsLaid 0 columns lines
  pub written : bytes ≡ flat_map written_line (laid_lines columns lines)
