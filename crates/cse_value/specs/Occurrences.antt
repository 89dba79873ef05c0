-- The most occurrences of a record.
use Rattle.std.specs.Prelude.{ℕ, List, slice_get}
use Rattle.std.specs.Option.{option_map_or}
use Rattle.cse_value.specs.declared.shape.RecordShape.{RecordShape}

-- MaxRecords of a record; 0 where there is no such record
abbrev pub most_occurrences : List RecordShape → ℕ → ℕ
most_occurrences records r = option_map_or (λ x. x.max_records) (slice_get records r) 0
