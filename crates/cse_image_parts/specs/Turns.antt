-- How many turns a counting loop may take.
use Rattle.std.specs.Prelude.{ℕ, List, Option}
use Rattle.std.specs.List.{slice_get}

-- the limit at this place of the table, from 0; none outside it
abbrev pub limit_of : List ℕ → ℕ → Option ℕ
limit_of limits b = slice_get limits b
