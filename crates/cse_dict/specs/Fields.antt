-- The columns of an item, and what logic may do with it.
use Rattle.std.specs.Prelude.{ℕ, ◌+◌, ◌&&◌, ◌||◌, Bool, true, false, not, List, Option, None, Some, if◌then◌else◌, nat_lt, ℤ, codes}
use Rattle.std.specs.List.{list_any}
use Rattle.std.specs.Option.{option_and_then, option_map}
use Rattle.cse_value.specs.declared.shape.ItemKind.{ItemKind}
use Rattle.cse_value.specs.declared.shape.ItemKind.TheVariants.{Opaque, Number, Text}
use Rattle.cse_sections.specs.Sections.{SectionText}
use Rattle.cse_sections.specs.Number.{fits_columns}
use Rattle.cse_dict.specs.Keys.{data_type_of, entry_of, number_in, number_or}
use Rattle.cse_dict.specs.Types.{type_len_of}
use Rattle.cse_dict.specs.declared.keys.DataType.{DataType}
use Rattle.cse_dict.specs.declared.keys.DataType.TheVariants.{Numeric, Alpha, Neither}
use Rattle.cse_dict.specs.declared.field.Columns.{Columns}
use Rattle.cse_dict.specs.declared.field.Field.{Field}

-- the columns of an item, if both keys are readable
abbrev pub columns_from : Option ℕ → Option ℕ → Option Columns
columns_from start len = option_and_then (λ s. option_map (λ l. record { start = s; len = l }) len) start

unfoldable pub columns_of : SectionText → Option Columns
columns_of section = columns_from (number_in 1 65535 (entry_of (codes "Start") section)) (number_in 1 65535 (entry_of (codes "Len") section))

-- the item, if all its numbers are readable
abbrev pub field_from : Option Columns → Option ℕ → Option ℕ → DataType → Option Field
field_from columns occurrences decimal data_type =
    option_and_then (λ c. option_and_then (λ o. option_map (λ d. record { columns = c; occurrences = o; decimal = d; data_type = data_type }) decimal) occurrences) columns

unfoldable pub field_of : SectionText → Option Field
field_of section =
    field_from (columns_of section) (number_or 1 65535 1 (entry_of (codes "Occurrences") section))
    (number_or 0 255 0 (entry_of (codes "Decimal") section)) (data_type_of section)

-- two ranges of columns share one
unfoldable pub share_column : Columns → Columns → Bool
share_column a b = nat_lt a.start (b.start + b.len) && nat_lt b.start (a.start + a.len)

-- too long for its type, or of no type that is known
abbrev pub is_unfit : DataType → ℕ → Bool
is_unfit Numeric len = nat_lt 15 len
is_unfit Alpha len = nat_lt 255 len
is_unfit Neither len = true

-- An item is opaque with decimals, with several occurrences, where its type doesn't fit, or where it belongs to a record and shares a column
-- with an id item or the record type.
unfoldable pub is_opaque : List Columns → Bool → Field → Bool
is_opaque covered in_record f =
    nat_lt 0 f.decimal || nat_lt 1 f.occurrences || is_unfit f.data_type f.columns.len || (in_record && list_any (share_column f.columns) covered)

abbrev pub kind_by_type : DataType → ItemKind
kind_by_type Numeric = Number
kind_by_type Alpha = Text
kind_by_type Neither = Opaque

unfoldable pub item_kind : List Columns → Bool → Field → ItemKind
item_kind covered in_record f = if is_opaque covered in_record f then Opaque else kind_by_type f.data_type

abbrev pub is_number : ItemKind → Bool
is_number Opaque = false
is_number Number = true
is_number Text = false

-- the columns of the record type, if it has some and its keys are readable
abbrev pub type_columns_from : Option ℕ → Option ℕ → Option Columns
type_columns_from len start = option_and_then (λ l. if nat_lt 0 l then option_map (λ s. record { start = s; len = l }) start else None) len

unfoldable pub type_columns_of : SectionText → Option Columns
type_columns_of first = type_columns_from (type_len_of first) (number_in 1 65535 (entry_of (codes "RecordTypeStart") first))

-- a code that isn't readable or is too long for its item
abbrev pub is_bad_code : ℕ → Option ℤ → Bool
is_bad_code len None = true
is_bad_code len (Some z) = not (fits_columns len z)
