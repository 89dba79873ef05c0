-- A reading of a deck text whose next cell is there.
use Rattle.std.specs.Prelude.{◌≡◌, ◌<◌, Bool, List, [], length}
use Rattle.std.specs.List.{slice_index_or}
use Rattle.cse_value.specs.declared.number.Num.{Num}
use Rattle.cse_decks.specs.declared.due.Due.{Due}
use Rattle.cse_decks.specs.declared.due.Due.TheVariants.{Heading, Opening, Cell, Nothing}

-- a cell that is due is one of the array's
abbrev pub CellInside : List (List Num) → Due → Type 0
CellInside arrays (Cell i place) = place < length (slice_index_or arrays i [])
CellInside arrays Heading = Unit {0}
CellInside arrays Opening = Unit {0}
CellInside arrays Nothing = Unit {0}

pub record IsInside (due : Due) (arrays : List (List Num)) (came : List Bool) : Type 0 where
  pub cell : CellInside arrays due
  pub flags : length came ≡ length arrays
