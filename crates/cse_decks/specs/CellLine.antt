-- The line of a cell is read as that cell, and only the line of a cell is read as the cell.
use Rattle.std.specs.Prelude.{◌≡◌, ℕ, true, List, Some}
use Rattle.cse_value.specs.declared.number.Num.{Num}
use Rattle.cse_value.specs.Field.{shown, fits_num}
use Rattle.cse_decks.specs.Loading.{cell_of}

-- what is read of a cell of 64 bits is the cell
abbrev pub ReadsCells : Type 0
ReadsCells = (v : Num) → fits_num v ≡ true → cell_of (shown v) ≡ Some v

-- what is read as a cell is its text
abbrev pub ReadsNothingElse : Type 0
ReadsNothingElse = (line : List ℕ) (v : Num) → cell_of line ≡ Some v → line ≡ shown v
