-- The columns of an item in a line, and the line after they were written.
use Rattle.std.specs.Prelude.{◌≡◌, ◌<◌, ◌≤◌, ◌⊎◌, ℕ, ◌+◌, ◌-◌, List, ◌++◌, length, take, drop, slice_get}
use Rattle.std.specs.Option.{option_map_or}
use Rattle.cse_value.specs.declared.shape.ItemShape.{ItemShape}
use Rattle.cse_value.specs.declared.shape.ItemKind.{ItemKind}
use Rattle.cse_value.specs.declared.shape.ItemKind.TheVariants.{Opaque}

abbrev pub no_item : ItemShape
no_item = record { owner = 255; kind = Opaque; len = 0; start = 0 }

-- an item by its number
abbrev pub item_at : List ItemShape → ℕ → ItemShape
item_at items n = option_map_or (λ i. i) (slice_get items n) no_item

-- the item is there, belongs to this record (or to no record: 255), and has this kind
pub record IsItem (items : List ItemShape) (owner : ℕ) (kind : ItemKind) (n : ℕ) : Type 0 where
  pub there : n < length items
  pub owns : (item_at items n).owner ≡ owner
  pub is_of_kind : (item_at items n).kind ≡ kind

-- the item's columns among those of a line: Len columns from the column Start on, counted from 1
unfoldable pub field_of : ItemShape → List ℕ → List ℕ
field_of item columns = take item.len (drop (item.start - 1) columns)

-- the item has this column, counted from 0
abbrev pub HasColumn : ItemShape → ℕ → Type 0
HasColumn item k = (item.start - 1 ≤ k) × (k < item.start - 1 + item.len)

-- the items have no column in common
abbrev pub HaveNoneInCommon : ItemShape → ItemShape → Type 0
HaveNoneInCommon a b = (a.start + a.len ≤ b.start) ⊎ (b.start + b.len ≤ a.start)

-- a line's columns with those of the item written anew, in so many columns as they were
unfoldable pub rewritten : ItemShape → (ℕ → List ℕ) → List ℕ → List ℕ
rewritten item put columns = take (item.start - 1) columns ++ (put (length (field_of item columns)) ++ drop (item.start - 1 + item.len) columns)
