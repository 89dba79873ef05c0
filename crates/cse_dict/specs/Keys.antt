-- What a section is, and what stands at its keys.
use Rattle.std.specs.Prelude.{ℕ, ◌&&◌, ◌||◌, ◌==◌, Bool, false, map, List, length, slice_get, Option, None, Some, if◌then◌else◌, nat_le, find, codes}
use Rattle.std.specs.List.{list_all}
use Rattle.std.specs.Option.{option_and_then}
use Rattle.std.specs.Char.{is_ascii_alphabetic, is_ascii_alphanumeric, to_ascii_uppercase}
use Rattle.cse_sections.specs.Text.{is_same}
use Rattle.cse_sections.specs.Sections.{EntryText, SectionText}
use Rattle.cse_sections.specs.Number.{number_between}
use Rattle.cse_dict.specs.declared.keys.Kind.{Kind}
use Rattle.cse_dict.specs.declared.keys.Kind.TheVariants.{Dictionary, Level, IdItems, Record, Item, ValueSet, Other}
use Rattle.cse_dict.specs.declared.keys.DataType.{DataType}
use Rattle.cse_dict.specs.declared.keys.DataType.TheVariants.{Numeric, Alpha, Neither}

-- what a heading says, in any letter case
unfoldable pub kind_of : List ℕ → Kind
kind_of heading =
    if is_same heading (codes "Dictionary") then Dictionary else
    if is_same heading (codes "Level") then Level else
    if is_same heading (codes "IdItems") then IdItems else
    if is_same heading (codes "Record") then Record else
    if is_same heading (codes "Item") then Item else
    if is_same heading (codes "ValueSet") then ValueSet else Other

-- the first entry with this key
unfoldable pub entry_of : List ℕ → SectionText → Option EntryText
entry_of key section = find (λ e. is_same e.key key) section.entries

-- the number at a key
abbrev pub number_in : ℕ → ℕ → Option EntryText → Option ℕ
number_in low high entry = option_and_then (λ e. number_between low high e.value) entry

-- the number at a key that may be absent
abbrev pub number_or : ℕ → ℕ → ℕ → Option EntryText → Option ℕ
number_or low high absent None = Some absent
number_or low high absent (Some e) = number_between low high e.value

-- the value at a key is Yes
abbrev pub says_yes : Option EntryText → Bool
says_yes None = false
says_yes (Some e) = is_same e.value (codes "Yes")

-- the word at DataType
unfoldable pub data_type_named : List ℕ → DataType
data_type_named word =
    if is_same word (codes "Numeric") then Numeric else
    if is_same word (codes "Alpha") then Alpha else Neither

abbrev pub data_type_in : Option EntryText → DataType
data_type_in None = Numeric
data_type_in (Some e) = data_type_named e.value

unfoldable pub data_type_of : SectionText → DataType
data_type_of section = data_type_in (entry_of (codes "DataType") section)

-- a byte of a name
abbrev pub is_name_byte : ℕ → Bool
is_name_byte b = is_ascii_alphanumeric b || b == 95

abbrev pub is_letter : Option ℕ → Bool
is_letter None = false
is_letter (Some b) = is_ascii_alphabetic b

-- a letter, and letters, digits and `_`, at most 32
unfoldable pub is_name : List ℕ → Bool
is_name bytes = is_letter (slice_get bytes 0) && nat_le (length bytes) 32 && list_all is_name_byte bytes

-- a name as it is kept
abbrev pub kept_name : List ℕ → List ℕ
kept_name name = map to_ascii_uppercase name
