-- The text in which the cells of saved arrays live between runs, line by line.
use Rattle.std.specs.Prelude.{ℕ, List, [], ◌∷◌, ◌++◌, codes, if◌then◌else◌}
use Rattle.std.specs.List.{flat_map}
use Rattle.std.specs.Fmt.{decimal}
use Rattle.cse_value.specs.declared.number.Num.{Num}
use Rattle.cse_value.specs.Field.{shown}
use Rattle.cse_image_parts.specs.Image.{Image, ArrayLists}
use Rattle.cse_value.specs.Gathering.{line}
use Rattle.cse_decks.specs.Store.{Kept}

abbrev pub heading : List ℕ
heading = codes "CSEB DECKS 1"

abbrev pub ending : List ℕ
ending = codes "END"

-- a size, with a blank in front
abbrev pub size_word : ℕ → List ℕ
size_word d = 32 ∷ decimal d

-- the line before an array's cells: its name and its sizes
unfoldable pub array_line : ArrayLists → List ℕ
array_line a = (codes "ARRAY " ++ a.name) ++ flat_map size_word a.dimensions

-- the line of a cell: a whole number, NOTAPPL, MISSING or DEFAULT
abbrev pub cell_line : Num → List ℕ
cell_line v = line (shown v)

-- the lines of an array with these cells, the last index fastest
unfoldable pub block : ArrayLists → List Num → List ℕ
block a cells = line (array_line a) ++ flat_map cell_line cells

-- the lines of an array that is saved
abbrev pub saved_block : ArrayLists → List Num → List ℕ
saved_block a cells = if a.saved then block a cells else []

abbrev pub blocks : List ArrayLists → List (List Num) → List ℕ
blocks [] arrays = []
blocks (a ∷ others) [] = []
blocks (a ∷ others) (cells ∷ more) = saved_block a cells ++ blocks others more

-- the text that keeps the saved arrays of a store
unfoldable pub deck_text : Image → Kept → List ℕ
deck_text x s = (line heading ++ blocks x.lists.arrays s.arrays) ++ line ending
