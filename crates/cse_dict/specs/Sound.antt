-- What a caller may rely on in every dictionary: its numbers keep to the rules, and what belongs together fits together.
use Rattle.std.specs.Prelude.{◌≡◌, ◌⊎◌, ℕ, ◌+◌, ◌-◌, ◌≤◌, ◌<◌, ℤ, List, [], length, Some, All, slice_get, true}
use Rattle.cse_value.specs.Number.{fits_i64}
use Rattle.cse_value.specs.declared.shape.ItemKind.TheVariants.{Opaque, Number, Text}
use Rattle.cse_sections.specs.Sections.{sections_of}
use Rattle.cse_sections.specs.Number.{fits_columns}
use Rattle.cse_dict.specs.Dictionary.{DictionaryText, IsSmall, ItemText, RecordText, SetText, dictionary_of, no_columns}
use Rattle.cse_dict.specs.Pairs.{RowsBelow}
use Rattle.cse_dict.specs.Reading.{text_faults}
use Rattle.cse_dict.specs.declared.field.Columns.{Columns}

-- two ranges of columns have none in common
abbrev pub AreApart : Columns → Columns → Type 0
AreApart a b = (a.start + a.len ≤ b.start) ⊎ (b.start + b.len ≤ a.start)

-- the columns that an item covers: Len of them, from Start on
abbrev pub columns_of_item : ItemText → Columns
columns_of_item i = record { start = i.shape.start; len = i.shape.len }

-- an id item belongs to no record; it stands in every line
abbrev pub IsIdItem : ItemText → Type 0
IsIdItem i = i.shape.owner ≡ 255

-- an item shares no column with the record type and with any id item
pub record KeepsOffIds (d : DictionaryText) (i : ItemText) : Type 0 where
  pub type_apart : AreApart (columns_of_item i) d.type_columns
  pub ids_apart : All (λ id. IsIdItem id → AreApart (columns_of_item i) (columns_of_item id)) d.items

-- a code of `missing` is a number that fits the columns of its item
pub record IsSoundCode (i : ItemText) (z : ℤ) : Type 0 where
  pub kind : i.shape.kind ≡ Number
  pub whole : fits_i64 z ≡ true
  pub fits : fits_columns i.shape.len z ≡ true

-- the columns of a record type: 1 to 16, from column 1 at least on
pub record AreTypeColumns (c : Columns) : Type 0 where
  pub start : 1 ≤ c.start
  pub len : 1 ≤ c.len
  pub few : c.len ≤ 16

-- An item is an id item, or belongs to a record that is there and ends within it. Start and Len are 1 at least; a number has 15 columns at most,
-- a text 255. An item of a record that isn't opaque keeps off the record type and the id items.
pub record IsSoundItem (d : DictionaryText) (i : ItemText) : Type 0 where
  pub owner : IsIdItem i ⊎ (i.shape.owner < length d.records)
  pub start : 1 ≤ i.shape.start
  pub len : 1 ≤ i.shape.len
  pub number : i.shape.kind ≡ Number → i.shape.len ≤ 15
  pub text : i.shape.kind ≡ Text → i.shape.len ≤ 255
  pub within : (r : RecordText) → slice_get d.records i.shape.owner ≡ Some r → i.shape.start - 1 + i.shape.len ≤ r.shape.record_len
  pub apart : (IsIdItem i → ⊥) → (i.shape.kind ≡ Opaque → ⊥) → KeepsOffIds d i
  pub code : (z : ℤ) → i.code ≡ Some z → IsSoundCode i z

-- A record has 1 to 9,999 occurrences at most and one column at least, and its type fills the columns of the record type.
pub record IsSoundRecord (d : DictionaryText) (r : RecordText) : Type 0 where
  pub most : 1 ≤ r.shape.max_records
  pub few : r.shape.max_records ≤ 9999
  pub len : 1 ≤ r.shape.record_len
  pub type_len : length r.record_type ≡ d.type_columns.len

-- a value set belongs to an item that is there, and its pairs stand in its rows
pub record IsSoundSet (d : DictionaryText) (s : SetText) : Type 0 where
  pub item : s.shape.item < length d.items
  pub rows : RowsBelow s.shape.rows s.spans

-- Of its record type a dictionary has columns, or none that start nowhere.
pub record IsSound (d : DictionaryText) : Type 0 where
  pub items : All (IsSoundItem d) d.items
  pub records : All (IsSoundRecord d) d.records
  pub sets : All (IsSoundSet d) d.sets
  pub type_columns : (d.type_columns ≡ no_columns) ⊎ AreTypeColumns d.type_columns
  pub small : IsSmall d

-- the law: the dictionary of a text of which no fault holds is sound
abbrev pub SoundWithoutFault : Type 0
SoundWithoutFault = (bytes : List ℕ) → text_faults bytes ≡ [] → IsSound (dictionary_of (sections_of bytes))
