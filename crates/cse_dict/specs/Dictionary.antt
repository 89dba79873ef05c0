-- The dictionary of a list of sections, and what look-ups tell of it.
use Rattle.std.specs.Prelude.{ℕ, ◌+◌, ◌-◌, ◌≤◌, ◌&&◌, length, Bool, true, false, List, [], ◌∷◌, ◌++◌, Option, None, Some, unwrap_or, map, find, if◌then◌else◌, ℤ, int_le, int_lt, is_some, nat_le, position, slice_get, codes}
use Rattle.std.specs.Option.{option_and_then, option_map, option_map_or}
use Rattle.std.specs.Map.{lookup}
use Rattle.std.specs.Str.{bytes_eq, is_utf8}
use Rattle.cse_value.specs.Shape.{ShapeLists}
use Rattle.cse_value.specs.declared.shape.RecordShape.{RecordShape}
use Rattle.cse_value.specs.declared.shape.ItemShape.{ItemShape}
use Rattle.cse_value.specs.declared.shape.ItemKind.{ItemKind}
use Rattle.cse_value.specs.declared.shape.SetShape.{SetShape}
use Rattle.cse_value.specs.declared.number.Num.{Num}
use Rattle.cse_value.specs.declared.number.Num.TheVariants.{Whole, NotAppl, Missing, Undef}
use Rattle.cse_sections.specs.Sections.{EntryText, SectionText}
use Rattle.cse_sections.specs.Number.{whole_of}
use Rattle.cse_dict.specs.Keys.{entry_of, kept_name, kind_of, number_in, number_or, says_yes}
use Rattle.cse_dict.specs.Types.{type_len_of, type_of}
use Rattle.cse_dict.specs.Pairs.{rows_of}
use Rattle.cse_dict.specs.Fields.{field_of, is_number, item_kind, type_columns_of}
use Rattle.cse_dict.specs.Context.{context_after, covered_by, is_in_record, no_context}
use Rattle.cse_dict.specs.Faults.{is_level, read_part}
use Rattle.cse_dict.specs.declared.keys.Kind.{Kind}
use Rattle.cse_dict.specs.declared.keys.Kind.TheVariants.{Dictionary, Level, IdItems, Record, Item, ValueSet, Other}
use Rattle.cse_dict.specs.declared.keys.DataType.TheVariants.{Neither}
use Rattle.cse_dict.specs.declared.field.Columns.{Columns}
use Rattle.cse_dict.specs.declared.field.Field.{Field}
use Rattle.cse_dict.specs.declared.rows.NumberSpan.{NumberSpan}
use Rattle.cse_dict.specs.declared.context.Context.{Context}
use Rattle.cse_dict.specs.declared.context.Owner.{Owner}
use Rattle.cse_dict.specs.declared.context.Owner.TheVariants.{Nobody, Ids, OfRecord}

-- a record: its name, the characters of its type, and its shape
pub record RecordText : Type 0 where
  pub name : List ℕ
  pub record_type : List ℕ
  pub shape : RecordShape

-- an item: its name and shape, whether it is written with zeros, and its code of `missing`
pub record ItemText : Type 0 where
  pub name : List ℕ
  pub shape : ItemShape
  pub zero_fill : Bool
  pub code : Option ℤ

-- a value set: its name and shape, and its pairs of numbers in order, each with its row
pub record SetText : Type 0 where
  pub name : List ℕ
  pub shape : SetShape
  pub spans : List NumberSpan

-- a dictionary: names in upper case; the columns of the record type, 0 and 0 where there are none; records, items and sets in order
pub record DictionaryText : Type 0 where
  pub name : List ℕ
  pub level_name : List ℕ
  pub type_columns : Columns
  pub records : List RecordText
  pub items : List ItemText
  pub sets : List SetText

-- a name as a text; bytes that aren't UTF-8 are no name
unfoldable pub text_name : List ℕ → List ℕ
text_name bytes = if is_utf8 bytes then kept_name bytes else []

abbrev pub name_or_none : Option EntryText → List ℕ
name_or_none None = []
name_or_none (Some e) = text_name e.value

unfoldable pub name_at : SectionText → List ℕ
name_at section = name_or_none (entry_of (codes "Name") section)

-- a record
unfoldable pub record_shape_at : SectionText → RecordShape
record_shape_at section = record {
  max_records = unwrap_or (number_or 1 9999 1 (entry_of (codes "MaxRecords") section)) 1;
  record_len = unwrap_or (number_in 1 65535 (entry_of (codes "RecordLen") section)) 0;
}

abbrev pub record_at : Option ℕ → SectionText → RecordText
record_at len section = record { name = name_at section; record_type = unwrap_or (type_of len section) []; shape = record_shape_at section }

abbrev pub record_by_kind : Kind → Option ℕ → SectionText → List RecordText
record_by_kind Record len section = record_at len section ∷ []
record_by_kind Dictionary len section = []
record_by_kind Level len section = []
record_by_kind IdItems len section = []
record_by_kind Item len section = []
record_by_kind ValueSet len section = []
record_by_kind Other len section = []

unfoldable pub record_in : Option ℕ → SectionText → List RecordText
record_in len section = record_by_kind (kind_of section.heading) len section

abbrev pub records_of : Option ℕ → List SectionText → List RecordText
records_of len [] = []
records_of len (s ∷ ss) = record_in len s ++ records_of len ss

-- an item, by what stands before it; the number of its record, and 255 for an id item
abbrev pub owner_number : Owner → ℕ → ℕ
owner_number Nobody records = 255
owner_number Ids records = 255
owner_number (OfRecord room) records = records - 1

abbrev pub no_field : Field
no_field = record { columns = record { start = 0; len = 0 }; occurrences = 1; decimal = 0; data_type = Neither }

unfoldable pub field_or_none : SectionText → Field
field_or_none section = unwrap_or (field_of section) no_field

abbrev pub code_in : ItemKind → Option EntryText → Option ℤ
code_in kind entry = if is_number kind then option_and_then (λ e. whole_of e.value) entry else None

unfoldable pub item_shape_at : List Columns → Context → SectionText → ItemShape
item_shape_at covered c section = let f = field_or_none section in record {
  owner = owner_number c.owner c.records;
  kind = item_kind covered (is_in_record c.owner) f;
  len = f.columns.len;
  start = f.columns.start;
}

abbrev pub item_at : List Columns → Context → SectionText → ItemText
item_at covered c section = record {
  name = name_at section;
  shape = item_shape_at covered c section;
  zero_fill = says_yes (entry_of (codes "ZeroFill") section);
  code = code_in (item_shape_at covered c section).kind (entry_of (codes "EditMissing") section);
}

abbrev pub item_by_kind : Kind → List Columns → Context → SectionText → List ItemText
item_by_kind Item covered c section = item_at covered c section ∷ []
item_by_kind Dictionary covered c section = []
item_by_kind Level covered c section = []
item_by_kind IdItems covered c section = []
item_by_kind Record covered c section = []
item_by_kind ValueSet covered c section = []
item_by_kind Other covered c section = []

unfoldable pub item_in : List Columns → Context → SectionText → List ItemText
item_in covered c section = item_by_kind (kind_of section.heading) covered c section

abbrev pub items_from : List Columns → Context → List SectionText → List ItemText
items_from covered c [] = []
items_from covered c (s ∷ ss) = item_in covered c s ++ items_from covered (context_after c s) ss

-- a value set, which belongs to the item before it
unfoldable pub set_at : Context → SectionText → SetText
set_at c section = let r = rows_of c.data_type section in record {
  name = name_at section;
  shape = record { item = c.items - 1; rows = r.rows; partial = r.partial };
  spans = r.spans;
}

abbrev pub set_by_kind : Kind → Context → SectionText → List SetText
set_by_kind ValueSet c section = set_at c section ∷ []
set_by_kind Dictionary c section = []
set_by_kind Level c section = []
set_by_kind IdItems c section = []
set_by_kind Record c section = []
set_by_kind Item c section = []
set_by_kind Other c section = []

unfoldable pub set_in : Context → SectionText → List SetText
set_in c section = set_by_kind (kind_of section.heading) c section

abbrev pub sets_from : Context → List SectionText → List SetText
sets_from c [] = []
sets_from c (s ∷ ss) = set_in c s ++ sets_from (context_after c s) ss

-- the name of the level
unfoldable pub level_name_of : List SectionText → List ℕ
level_name_of read = option_map_or name_at (find is_level read) []

abbrev pub no_columns : Columns
no_columns = record { start = 0; len = 0 }

unfoldable pub dictionary_of : List SectionText → DictionaryText
dictionary_of [] = record { name = []; level_name = []; type_columns = no_columns; records = []; items = []; sets = [] }
dictionary_of (first ∷ rest) = let read = read_part rest in record {
  name = name_at first;
  level_name = level_name_of read;
  type_columns = unwrap_or (type_columns_of first) no_columns;
  records = records_of (type_len_of first) read;
  items = items_from (covered_by first read) no_context read;
  sets = sets_from no_context read;
}

-- what a program must know of the dictionary
abbrev pub shape_of : DictionaryText → ShapeLists
shape_of d = record { records = map (λ r. r.shape) d.records; items = map (λ i. i.shape) d.items; sets = map (λ s. s.shape) d.sets }

-- the number of the first that has this name, in any letter case; a name has at most 32 characters
abbrev pub number_named : List ℕ → List (List ℕ) → Option ℕ
number_named name names = if nat_le (length name) 32 then position (bytes_eq (kept_name name)) names else None

-- the number of the record with this type
abbrev pub number_of_type : List ℕ → DictionaryText → Option ℕ
number_of_type columns d = position (λ r. bytes_eq r.record_type columns) d.records

-- the pair contains the number
abbrev pub contains : ℤ → NumberSpan → Bool
contains z s = int_le s.low z && int_le z s.high

-- the row of the first pair that contains the number; special values have none
abbrev pub row_in : Num → List NumberSpan → Option ℕ
row_in (Whole z) spans = option_map (λ s. s.row) (find (contains z) spans)
row_in NotAppl spans = None
row_in Missing spans = None
row_in Undef spans = None

-- each pair ends before the next one starts
abbrev pub starts_above : ℤ → List NumberSpan → Bool
starts_above high [] = true
starts_above high (s ∷ ss) = int_lt high s.low

abbrev pub ascends : List NumberSpan → Bool
ascends [] = true
ascends (s ∷ ss) = int_le s.low s.high && starts_above s.high ss && ascends ss

abbrev pub spans_at : DictionaryText → ℕ → List NumberSpan
spans_at d n = option_map_or (λ s. s.spans) (slice_get d.sets n) []

-- how many rows a set has
abbrev pub rows_at : DictionaryText → ℕ → ℕ
rows_at d n = option_map_or (λ s. s.shape.rows) (slice_get d.sets n) 0

-- what an item has, by its number
abbrev pub code_at : DictionaryText → ℕ → Option ℤ
code_at d n = option_and_then (λ i. i.code) (slice_get d.items n)

abbrev pub zero_fill_at : DictionaryText → ℕ → Bool
zero_fill_at d n = option_map_or (λ i. i.zero_fill) (slice_get d.items n) false

-- the name of a record, an item and a set, by its number
abbrev pub record_name_at : DictionaryText → ℕ → List ℕ
record_name_at d n = option_map_or (λ r. r.name) (slice_get d.records n) []

abbrev pub item_name_at : DictionaryText → ℕ → List ℕ
item_name_at d n = option_map_or (λ i. i.name) (slice_get d.items n) []

abbrev pub set_name_at : DictionaryText → ℕ → List ℕ
set_name_at d n = option_map_or (λ s. s.name) (slice_get d.sets n) []

-- names with their places, each name once
abbrev pub with_place : List (List ℕ × ℕ) → ℕ → List ℕ → List (List ℕ × ℕ)
with_place places n name = if is_some (lookup (bytes_eq name) places) then places else places ++ (name, n) ∷ []

abbrev pub places_from : List (List ℕ × ℕ) → ℕ → List (List ℕ) → List (List ℕ × ℕ)
places_from places n [] = places
places_from places n (name ∷ names) = places_from (with_place places n name) (n + 1) names

-- a dictionary has at most 200 records, 10,000 items and 10,000 sets
pub record IsSmall (d : DictionaryText) : Type 0 where
  pub records : length d.records ≤ 200
  pub items : length d.items ≤ 10000
  pub sets : length d.sets ≤ 10000

-- the names of records, items and sets, in order
abbrev pub record_names : DictionaryText → List (List ℕ)
record_names d = map (λ r. r.name) d.records

abbrev pub item_names : DictionaryText → List (List ℕ)
item_names d = map (λ i. i.name) d.items

abbrev pub set_names : DictionaryText → List (List ℕ)
set_names d = map (λ s. s.name) d.sets
