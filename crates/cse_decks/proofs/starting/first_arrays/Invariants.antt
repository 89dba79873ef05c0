use Rattle.std.proofs.Common.{◌≡◌, take}
use Rattle.std.specs.Prelude.{map}
use Rattle.cse_image_parts.specs.Image.{array_lists}
use Rattle.cse_decks.specs.Store.{first_cells}
use Rattle.cse_decks.proofs.starting.first_arrays.Given as goal

-- the arrays so far
abbrev pub invariant-loop-array : goal.invariant-loop-array
invariant-loop-array l = l.cells.items ≡ map first_cells (map array_lists (take l.array-index l.arrays))
