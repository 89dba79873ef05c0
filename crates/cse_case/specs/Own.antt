-- What begins with the line of an occurrence, and where items stand there.
use Rattle.std.specs.Prelude.{◌≡◌, ◌<◌, ◌≤◌, ℕ, ◌+◌, ◌-◌, List, length}
use Rattle.cse_value.specs.declared.shape.ItemShape.{ItemShape}
use Rattle.cse_case.specs.Field.{field_of, item_at}
use Rattle.cse_case.specs.declared.span.ItemSpan.{ItemSpan}
use Rattle.cse_case.specs.Case.{CaseText, columns_at, items_of, place_of}

-- the item has these columns, all of which stand in the line
pub record HoldsItem (item : ItemShape) (line columns : List ℕ) : Type 0 where
  pub start : 1 ≤ item.start
  pub whole : item.start - 1 + item.len ≤ length line
  pub are : columns ≡ field_of item line

-- each item of the record has its columns there
abbrev pub HoldsItems : CaseText → ℕ → ℕ → List ℕ → Type 0
HoldsItems c r o line = (item : ℕ) → item < length (items_of c) → (item_at (items_of c) item).owner ≡ r → HoldsItem (item_at (items_of c) item) line (columns_at c (place_of c r o) item)

-- these are the columns of the span's item, the first one counted from 0
pub record IsSpanOf (items : List ItemShape) (span : ItemSpan) : Type 0 where
  pub start : span.start ≡ (item_at items span.item).start - 1
  pub len : span.len ≡ (item_at items span.item).len
