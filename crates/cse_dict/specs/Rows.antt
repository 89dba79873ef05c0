-- How many rows a value set has.
use Rattle.std.specs.Prelude.{◌≤◌, All}
use Rattle.cse_dict.specs.Dictionary.{DictionaryText}

-- each value set has at most 65,534 rows: the number of the row after the last one is below 2 ^ 16
abbrev pub HasFewRows : DictionaryText → Type 0
HasFewRows d = All (λ s. s.shape.rows ≤ 65534) d.sets
