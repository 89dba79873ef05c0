-- The rows of the numbers from 0 on.
use Rattle.std.specs.Prelude.{◌≡◌, ◌<◌, ℕ, pos, List, length, slice_get, Option, Some}
use Rattle.cse_value.specs.declared.number.Num.TheVariants.{Whole}
use Rattle.cse_dict.specs.declared.rows.NumberSpan.{NumberSpan}
use Rattle.cse_dict.specs.Dictionary.{row_in}

-- each place of a table has the row of its number
abbrev pub TellsRows : List (Option ℕ) → List NumberSpan → Type 0
TellsRows rows spans = (number : ℕ) → number < length rows → slice_get rows number ≡ Some (row_in (Whole (pos number)) spans)
