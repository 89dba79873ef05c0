-- The columns that a dictionary names: those of the id items and of the record type, and the width of a line. Columns count from 1; what stands
-- past the last column is a blank.
use Rattle.std.specs.Prelude.{◌≡◌, Bool, true, ℕ, ◌+◌, ◌-◌, ◌==◌, max, map, List, [], ◌∷◌, ◌++◌, length, take, drop, replicate, filter, slice_get, Option, None, Some}
use Rattle.std.specs.Option.{option_map_or}
use Rattle.cse_dict.specs.Dictionary.{DictionaryText, number_of_type, shape_of}
use Rattle.cse_value.specs.declared.shape.ItemShape.{ItemShape}
use Rattle.cse_case.specs.declared.layout.ColumnSpan.{ColumnSpan}

-- columns padded with blanks to a width
abbrev pub padded : ℕ → List ℕ → List ℕ
padded width columns = columns ++ replicate (width - length columns) 32

-- so many columns from a first one
abbrev pub field_at : ColumnSpan → List ℕ → List ℕ
field_at span columns = take span.len (drop (span.start - 1) columns)

-- the columns of an item
abbrev pub span_of : ItemShape → ColumnSpan
span_of item = record { start = item.start; len = item.len }

-- the columns of the id items, in the order of the dictionary, and those of the record type
abbrev pub id_spans : DictionaryText → List ColumnSpan
id_spans d = map span_of (filter (λ item. item.owner == 255) (shape_of d).items)

abbrev pub type_span : DictionaryText → ColumnSpan
type_span d = record { start = d.type_columns.start; len = d.type_columns.len }

-- what stands at these places, one after the other
abbrev pub fields_at : List ColumnSpan → List ℕ → List ℕ
fields_at [] columns = []
fields_at (s ∷ ss) columns = field_at s columns ++ fields_at ss columns

-- the id columns of a line
unfoldable pub ids_of : DictionaryText → List ℕ → List ℕ
ids_of d columns = fields_at (id_spans d) columns

-- the last column of these places
abbrev pub last_column : List ColumnSpan → ℕ
last_column [] = 0
last_column (s ∷ ss) = max (s.start - 1 + s.len) (last_column ss)

-- at these places stands what stands at others, one after the other, and they end in the same column
pub record HaveSame (spans others : List ColumnSpan) : Type 0 where
  pub fields : (columns : List ℕ) → fields_at spans columns ≡ fields_at others columns
  pub last : last_column spans ≡ last_column others

-- two places are all columns up to a width, one behind the other
abbrev pub AreFront : ColumnSpan → ColumnSpan → ℕ → Type 0
AreFront first second width = (columns : List ℕ) → take width columns ≡ field_at first columns ++ field_at second columns

-- columns with the same record type and the same ids begin alike, up to a width
abbrev pub TellApart : ColumnSpan → List ColumnSpan → ℕ → Type 0
TellApart record_type ids width = (a b : List ℕ) → field_at record_type a ≡ field_at record_type b → fields_at ids a ≡ fields_at ids b → take width a ≡ take width b

-- what is kept of a layout: the places of the id items joined, and whether lines of the same record type are told apart by their ids
pub record IsLaidOut (blocks ids : List ColumnSpan) (record_type : ColumnSpan) (least_width : ℕ) (is_filled : Bool) : Type 0 where
  pub same : HaveSame blocks ids
  pub apart : is_filled ≡ true → TellApart record_type ids least_width

-- each line has the columns of the id items and of the record type
unfoldable pub least_width : DictionaryText → ℕ
least_width d = last_column (type_span d ∷ id_spans d)

-- what a dictionary names on each line
pub record LayoutText : Type 0 where
  pub ids : List ColumnSpan
  pub record_type : ColumnSpan
  pub least_width : ℕ

abbrev pub layout_of : DictionaryText → LayoutText
layout_of d = record { ids = id_spans d; record_type = type_span d; least_width = least_width d }

-- the record that the columns of a line name by their record type
unfoldable pub record_of : DictionaryText → List ℕ → Option ℕ
record_of d columns = number_of_type (field_at (type_span d) (padded (least_width d) columns)) d

-- the columns of a line of the record
abbrev pub record_len : DictionaryText → Option ℕ → ℕ
record_len d None = 0
record_len d (Some r) = option_map_or (λ x. x.record_len) (slice_get (shape_of d).records r) 0

-- how wide a line with these columns is: the greatest of its own length, the length of its record, and the last column of id items and record type
unfoldable pub width_of : DictionaryText → List ℕ → ℕ
width_of d columns = max (length columns) (max (least_width d) (record_len d (record_of d columns)))
