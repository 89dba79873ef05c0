-- The faults of a list of sections: all pairs of a line and a number that hold. One rule per number and key.
use Rattle.std.specs.Prelude.{ℕ, ◌+◌, ◌-◌, ◌&&◌, ◌||◌, ◌==◌, Bool, true, false, not, List, [], ◌∷◌, ◌++◌, length, take, drop, Option, None, Some, if◌then◌else◌, nat_lt, nat_le, is_none, suc, fold, codes}
use Rattle.std.specs.List.{list_any}
use Rattle.cse_sections.specs.Sections.{EntryText, SectionText}
use Rattle.cse_sections.specs.Number.{number_between, whole_of}
use Rattle.cse_dict.specs.Keys.{kind_of, entry_of, is_name, kept_name}
use Rattle.cse_dict.specs.Names.{is_among, with_name}
use Rattle.cse_dict.specs.Types.{type_len_of, type_of, type_text}
use Rattle.cse_dict.specs.Pairs.{is_value, one_more, pairs_after}
use Rattle.cse_dict.specs.Fields.{columns_of, field_of, is_bad_code, is_number, item_kind}
use Rattle.cse_dict.specs.Context.{context_after, covered_by, is_ids, is_in_record, no_context}
use Rattle.cse_dict.specs.declared.keys.Kind.{Kind}
use Rattle.cse_dict.specs.declared.keys.Kind.TheVariants.{Dictionary, Level, IdItems, Record, Item, ValueSet, Other}
use Rattle.cse_dict.specs.declared.keys.DataType.{DataType}
use Rattle.cse_dict.specs.declared.field.Columns.{Columns}
use Rattle.cse_dict.specs.declared.field.Field.{Field}
use Rattle.cse_dict.specs.declared.context.Context.{Context}
use Rattle.cse_dict.specs.declared.context.Owner.{Owner}
use Rattle.cse_dict.specs.declared.context.Owner.TheVariants.{Nobody, Ids, OfRecord}
use Rattle.cse_dict.specs.declared.fault.DictError.{DictError}
use Rattle.cse_dict.specs.declared.seen.Seen.{Seen}
use Rattle.cse_dict.specs.declared.seen.Filled.{Filled}

-- a fault where the test holds
abbrev pub fault_if : Bool → ℕ → ℕ → List DictError
fault_if b line number = if b then record { number = number; line = line } ∷ [] else []

-- 12: a key is missing
abbrev pub lacking : SectionText → Option EntryText → List DictError
lacking section entry = fault_if (is_none entry) section.line 12

-- 14: a number that is unreadable or out of its range
abbrev pub unreadable : ℕ → ℕ → Option EntryText → List DictError
unreadable low high None = []
unreadable low high (Some e) = fault_if (is_none (number_between low high e.value)) e.line 14

-- a number that must stand at its key, and one that may
unfoldable pub number_faults : SectionText → List ℕ → ℕ → ℕ → List DictError
number_faults section key low high = let e = entry_of key section in lacking section e ++ unreadable low high e

unfoldable pub optional_faults : SectionText → List ℕ → ℕ → ℕ → List DictError
optional_faults section key low high = unreadable low high (entry_of key section)

-- 17: the form of a name
abbrev pub misnamed : Option EntryText → List DictError
misnamed None = []
misnamed (Some e) = fault_if (not (is_name e.value)) e.line 17

-- 16: a name that an earlier section has
abbrev pub taken : List (List ℕ) → SectionText → Option EntryText → List DictError
taken names section None = []
taken names section (Some e) = fault_if (is_among names (kept_name e.value)) section.line 16

unfoldable pub name_faults : List (List ℕ) → SectionText → List DictError
name_faults names section = let e = entry_of (codes "Name") section in lacking section e ++ misnamed e ++ taken names section e

-- the names behind a section that brings one
abbrev pub names_with : List (List ℕ) → Option EntryText → List (List ℕ)
names_with names None = names
names_with names (Some e) = with_name names (kept_name e.value)

unfoldable pub names_after : List (List ℕ) → SectionText → List (List ℕ)
names_after names section = names_with names (entry_of (codes "Name") section)

-- 12 and 14: the type of a record lacks, or is longer than the columns of the record type; nothing is asked where these aren't readable
abbrev pub type_faults_at : ℕ → SectionText → Option EntryText → List DictError
type_faults_at len section None = fault_if (nat_lt 0 len) section.line 12
type_faults_at len section (Some e) = fault_if (nat_lt len (length (type_text e.value))) e.line 14

abbrev pub type_faults_by : Option ℕ → SectionText → List DictError
type_faults_by None section = []
type_faults_by (Some len) section = type_faults_at len section (entry_of (codes "RecordTypeValue") section)

unfoldable pub type_faults : Option ℕ → SectionText → List DictError
type_faults len section = type_faults_by len section

-- 18: a type that an earlier record has
abbrev pub same_type : List (List ℕ) → SectionText → Option (List ℕ) → List DictError
same_type types section None = []
same_type types section (Some t) = fault_if (is_among types t) section.line 18

unfoldable pub twice_faults : List (List ℕ) → Option ℕ → SectionText → List DictError
twice_faults types len section = same_type types section (type_of len section)

abbrev pub types_with : List (List ℕ) → Option (List ℕ) → List (List ℕ)
types_with types None = types
types_with types (Some t) = with_name types t

unfoldable pub types_after : List (List ℕ) → Option ℕ → SectionText → List (List ℕ)
types_after types len section = types_with types (type_of len section)

-- the numbers of a record
unfoldable pub record_number_faults : SectionText → List DictError
record_number_faults section = number_faults section (codes "RecordLen") 1 65535 ++ optional_faults section (codes "MaxRecords") 1 9999

-- a record; 17: there are 200 records before it
unfoldable pub record_head_faults : Seen → SectionText → List DictError
record_head_faults seen section =
    fault_if (nat_le 200 seen.context.records) section.line 17 ++ name_faults seen.names section ++ record_number_faults section

unfoldable pub record_faults : Option ℕ → Seen → SectionText → List DictError
record_faults len seen section = record_head_faults seen section ++ type_faults len section ++ twice_faults seen.types len section

-- 12: an item before the id items and every record
abbrev pub is_homeless : Owner → Bool
is_homeless Nobody = true
is_homeless Ids = false
is_homeless (OfRecord room) = false

-- 15: an item that ends past its record
abbrev pub ends_past : Option ℕ → Option Columns → Bool
ends_past None columns = false
ends_past (Some room) None = false
ends_past (Some room) (Some c) = nat_lt room (c.start + c.len - 1)

unfoldable pub is_too_far : Owner → Option Columns → Bool
is_too_far Nobody columns = false
is_too_far Ids columns = false
is_too_far (OfRecord room) columns = ends_past room columns

-- 14: a code that doesn't fit, on a number that isn't opaque; elsewhere it is skipped
unfoldable pub has_bad_code : List Columns → Owner → Field → List ℕ → Bool
has_bad_code covered owner f value = is_number (item_kind covered (is_in_record owner) f) && is_bad_code f.columns.len (whole_of value)

abbrev pub code_faults_for : List Columns → Owner → Option EntryText → Option Field → List DictError
code_faults_for covered owner None field = []
code_faults_for covered owner (Some e) None = []
code_faults_for covered owner (Some e) (Some f) = fault_if (has_bad_code covered owner f e.value) e.line 14

unfoldable pub code_faults : List Columns → Owner → SectionText → List DictError
code_faults covered owner section = code_faults_for covered owner (entry_of (codes "EditMissing") section) (field_of section)

-- the numbers of an item
unfoldable pub columns_faults : SectionText → List DictError
columns_faults section = number_faults section (codes "Start") 1 65535 ++ number_faults section (codes "Len") 1 65535

unfoldable pub form_faults : SectionText → List DictError
form_faults section = optional_faults section (codes "Occurrences") 1 65535 ++ optional_faults section (codes "Decimal") 0 255

unfoldable pub field_faults : SectionText → List DictError
field_faults section = columns_faults section ++ form_faults section

-- 17: there are 10,000 items before an item, or 50 id items before an id item
unfoldable pub item_limit_faults : Context → SectionText → List DictError
item_limit_faults c section = fault_if (nat_le 10000 c.items) section.line 17 ++ fault_if (is_ids c.owner && nat_le 50 c.ids) section.line 17

-- where an item stands, in the text and in its record
unfoldable pub item_place_faults : Owner → SectionText → List DictError
item_place_faults owner section =
    fault_if (is_homeless owner) section.line 12 ++ fault_if (is_too_far owner (columns_of section)) section.line 15

unfoldable pub item_head_faults : Seen → SectionText → List DictError
item_head_faults seen section = item_limit_faults seen.context section ++ name_faults seen.names section ++ field_faults section

-- an item
unfoldable pub item_faults : List Columns → Seen → SectionText → List DictError
item_faults covered seen section =
    item_head_faults seen section ++ item_place_faults seen.context.owner section ++ code_faults covered seen.context.owner section

-- the rows and pairs so far, counted up to one past their limits
unfoldable pub filled_after : DataType → Filled → EntryText → Filled
filled_after data_type f e =
    if is_value e then record { rows = one_more 65534 f.rows; pairs = pairs_after data_type f.pairs e.value } else f

-- 17: a row past the limit of its set, or pairs past the limit of the dictionary
unfoldable pub value_faults_at : DataType → Filled → EntryText → List DictError
value_faults_at data_type f e =
    let after = filled_after data_type f e in
    fault_if (is_value e && nat_lt 65534 after.rows) e.line 17 ++ fault_if (is_value e && nat_lt 100000 after.pairs) e.line 17

abbrev pub value_faults : DataType → Filled → List EntryText → List DictError
value_faults data_type f [] = []
value_faults data_type f (e ∷ es) = value_faults_at data_type f e ++ value_faults data_type (filled_after data_type f e) es

-- 12: there is no item before a value set; 17: there are 10,000 sets before it
unfoldable pub set_head_faults : Seen → SectionText → List DictError
set_head_faults seen section =
    fault_if (seen.context.items == 0) section.line 12 ++ fault_if (nat_le 10000 seen.context.sets) section.line 17 ++ name_faults seen.names section

-- a value set
unfoldable pub set_faults : Seen → SectionText → List DictError
set_faults seen section =
    set_head_faults seen section ++ value_faults seen.context.data_type (record { rows = 0; pairs = seen.pairs }) section.entries

-- the faults of a section behind the first one, by what was seen before it; a later `[Dictionary]` is skipped
abbrev pub faults_by_kind : Kind → List Columns → Option ℕ → Seen → SectionText → List DictError
faults_by_kind Level covered len seen section = name_faults seen.names section
faults_by_kind Record covered len seen section = record_faults len seen section
faults_by_kind Item covered len seen section = item_faults covered seen section
faults_by_kind ValueSet covered len seen section = set_faults seen section
faults_by_kind Dictionary covered len seen section = []
faults_by_kind IdItems covered len seen section = []
faults_by_kind Other covered len seen section = []

unfoldable pub faults_at : List Columns → Option ℕ → Seen → SectionText → List DictError
faults_at covered len seen section = faults_by_kind (kind_of section.heading) covered len seen section

-- what is seen behind it: names, record types, counts
abbrev pub seen_names : Kind → List (List ℕ) → SectionText → List (List ℕ)
seen_names Level names section = names_after names section
seen_names Record names section = names_after names section
seen_names Item names section = names_after names section
seen_names ValueSet names section = names_after names section
seen_names Dictionary names section = names
seen_names IdItems names section = names
seen_names Other names section = names

abbrev pub seen_types : Kind → List (List ℕ) → Option ℕ → SectionText → List (List ℕ)
seen_types Record types len section = types_after types len section
seen_types Level types len section = types
seen_types Item types len section = types
seen_types ValueSet types len section = types
seen_types Dictionary types len section = types
seen_types IdItems types len section = types
seen_types Other types len section = types

abbrev pub seen_pairs : Kind → DataType → ℕ → SectionText → ℕ
seen_pairs ValueSet data_type pairs section = (fold (filled_after data_type) (record { rows = 0; pairs = pairs }) section.entries).pairs
seen_pairs Record data_type pairs section = pairs
seen_pairs Level data_type pairs section = pairs
seen_pairs Item data_type pairs section = pairs
seen_pairs Dictionary data_type pairs section = pairs
seen_pairs IdItems data_type pairs section = pairs
seen_pairs Other data_type pairs section = pairs

unfoldable pub seen_after : Option ℕ → Seen → SectionText → Seen
seen_after len seen section = record {
  names = seen_names (kind_of section.heading) seen.names section;
  types = seen_types (kind_of section.heading) seen.types len section;
  context = context_after seen.context section;
  pairs = seen_pairs (kind_of section.heading) seen.context.data_type seen.pairs section;
}

-- the faults of the sections behind the first one
abbrev pub faults_from : List Columns → Option ℕ → Seen → List SectionText → List DictError
faults_from covered len seen [] = []
faults_from covered len seen (s ∷ ss) = faults_at covered len seen s ++ faults_from covered len (seen_after len seen s) ss

-- the first section: its name, and the columns of the record type; where they start isn't read if they are none
abbrev pub start_faults_by : Option ℕ → SectionText → List DictError
start_faults_by None first = optional_faults first (codes "RecordTypeStart") 1 65535
start_faults_by (Some len) first = if nat_lt 0 len then number_faults first (codes "RecordTypeStart") 1 65535 else []

unfoldable pub start_faults : Option ℕ → SectionText → List DictError
start_faults len first = start_faults_by len first

unfoldable pub first_faults : SectionText → List DictError
first_faults first = name_faults [] first ++ optional_faults first (codes "RecordTypeLen") 0 16 ++ start_faults (type_len_of first) first

abbrev pub seen_first : SectionText → Seen
seen_first first = record { names = names_after [] first; types = []; context = no_context; pairs = 0 }

-- a heading `[Level]`
abbrev pub is_level_kind : Kind → Bool
is_level_kind Level = true
is_level_kind Dictionary = false
is_level_kind IdItems = false
is_level_kind Record = false
is_level_kind Item = false
is_level_kind ValueSet = false
is_level_kind Other = false

unfoldable pub is_level : SectionText → Bool
is_level section = is_level_kind (kind_of section.heading)

-- how many sections are read: those before the second `[Level]`
abbrev pub read_len : Bool → List SectionText → ℕ
read_len has_level [] = 0
read_len has_level (s ∷ ss) = if has_level && is_level s then 0 else suc (read_len (has_level || is_level s) ss)

-- the sections that are read, and those that aren't
unfoldable pub read_part : List SectionText → List SectionText
read_part rest = take (read_len false rest) rest

unfoldable pub unread_part : List SectionText → List SectionText
unread_part rest = drop (read_len false rest) rest

-- 12: there is no level
abbrev pub level_lacks : SectionText → List SectionText → List DictError
level_lacks first read = fault_if (not (list_any is_level read)) first.line 12

-- 13: a second level
abbrev pub second_level : List SectionText → List DictError
second_level [] = []
second_level (s ∷ ss) = fault_if true s.line 13

unfoldable pub rest_faults : SectionText → List SectionText → List DictError
rest_faults first read = faults_from (covered_by first read) (type_len_of first) (seen_first first) read

unfoldable pub faults_behind : SectionText → List SectionText → List DictError
faults_behind first rest =
    first_faults first ++ (level_lacks first (read_part rest) ++ rest_faults first (read_part rest) ++ second_level (unread_part rest))

-- 11: the first section is another one, or there is none; then nothing else counts
abbrev pub no_dictionary : List DictError
no_dictionary = record { number = 11; line = 0 } ∷ []

abbrev pub faults_by_first : Kind → SectionText → List SectionText → List DictError
faults_by_first Dictionary first rest = faults_behind first rest
faults_by_first Level first rest = no_dictionary
faults_by_first IdItems first rest = no_dictionary
faults_by_first Record first rest = no_dictionary
faults_by_first Item first rest = no_dictionary
faults_by_first ValueSet first rest = no_dictionary
faults_by_first Other first rest = no_dictionary

unfoldable pub faults_of : List SectionText → List DictError
faults_of [] = no_dictionary
faults_of (first ∷ rest) = faults_by_first (kind_of first.heading) first rest

-- the least fault so far
abbrev pub is_before : DictError → DictError → Bool
is_before f g = nat_lt f.line g.line || (f.line == g.line && nat_lt f.number g.number)

abbrev pub note : Option DictError → DictError → Option DictError
note None f = Some f
note (Some g) f = if is_before f g then Some f else Some g

abbrev pub note_all : Option DictError → List DictError → Option DictError
note_all found faults = fold note found faults
