-- What code depends on besides its tree: the dictionary's records, the sizes of the arrays, and the routine.
use Rattle.std.specs.Prelude.{ℕ, List, map, Option, slice_get, slice_index, unwrap_or}
use Rattle.std.specs.Option.{option_map_or}
use Rattle.cse_value.specs.declared.shape.RecordShape.{RecordShape}
use Rattle.cse_image_parts.specs.declared.entries.Array.{Array}
use Rattle.cse_compile.specs.declared.setting.Setting as rust

pub record Setting : Type 0 where
  pub records : List RecordShape
  -- the sizes of each array
  pub arrays : List (List ℕ)
  -- in a function the local of its result
  pub result_at : Option ℕ

abbrev pub sizes_of : Array → List ℕ
sizes_of x = x.dimensions.items

abbrev pub setting : rust.Setting → Setting
setting x = record { records = x.records.now; arrays = map sizes_of x.arrays.now; result_at = x.result_at }

-- the size of an array in a direction, counted from 0; 0 where it has none
abbrev pub size_at : Setting → ℕ → ℕ → ℕ
size_at s array j = option_map_or (λ sizes. slice_index sizes j) (slice_get s.arrays array) 0

-- the local of the function's result
abbrev pub result_local : Setting → ℕ
result_local s = unwrap_or s.result_at 0
