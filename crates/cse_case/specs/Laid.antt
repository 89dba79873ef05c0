-- How the lines of a run lie in one list of columns: one after the other.
use Rattle.std.specs.Prelude.{◌≡◌, ℕ, ◌+◌, ◌≤◌, map, List, [], ◌∷◌, length, take, drop}
use Rattle.cse_case.specs.declared.line.Line.{Line}
use Rattle.cse_case.specs.declared.decode.Head.{Head}
use Rattle.cse_case.specs.Columns.{LineText}

-- a line that lies in these columns
abbrev pub laid_line : List ℕ → Line → LineText
laid_line columns line = record { columns = take line.width (drop line.first columns); len = line.len; ending = line.ending; record_number = line.record_number }

abbrev pub laid_lines : List ℕ → List Line → List LineText
laid_lines columns lines = map (laid_line columns) lines

-- from this place on the lines lie one after the other and fill the columns
abbrev pub IsLaid : ℕ → List ℕ → List Line → Type 0
IsLaid at columns [] = at ≡ length columns
IsLaid at columns (line ∷ lines) = (line.first ≡ at) × (line.len ≤ line.width) × IsLaid (at + line.width) columns lines

-- a line whose columns come behind these
abbrev pub line_behind : List ℕ → List ℕ → Head → Line
line_behind columns text head = record { first = length columns; width = length text; len = head.len; ending = head.ending; record_number = head.record_number }
