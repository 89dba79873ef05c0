-- The type of a record: the characters that stand in its lines at the columns of the record type.
use Rattle.std.specs.Prelude.{ℕ, ◌-◌, ◌&&◌, ◌==◌, List, [], ◌++◌, length, slice_index, slice_range, replicate, Option, None, Some, if◌then◌else◌, nat_le, codes}
use Rattle.cse_sections.specs.Text.{characters}
use Rattle.cse_sections.specs.Sections.{EntryText, SectionText}
use Rattle.cse_dict.specs.Keys.{entry_of, number_or}

-- the text without one pair of single quotes at both ends
unfoldable pub unquoted : List ℕ → List ℕ
unquoted text =
    if nat_le 2 (length text) && slice_index text 0 == 39 && slice_index text (length text - 1) == 39 then slice_range text 1 (length text - 1) else text

abbrev pub type_text : List ℕ → List ℕ
type_text value = characters (unquoted value)

-- a text padded with blanks
abbrev pub padded : ℕ → List ℕ → List ℕ
padded len text = text ++ replicate (len - length text) 32

-- the columns that a record type takes, if its key is readable; absent it is 0
unfoldable pub type_len_of : SectionText → Option ℕ
type_len_of first = number_or 0 16 0 (entry_of (codes "RecordTypeLen") first)

-- the type that stands at the key; a type of no columns may lack
abbrev pub type_in : ℕ → Option EntryText → Option (List ℕ)
type_in len None = if len == 0 then Some [] else None
type_in len (Some e) = if nat_le (length (type_text e.value)) len then Some (padded len (type_text e.value)) else None

abbrev pub type_by_len : Option ℕ → SectionText → Option (List ℕ)
type_by_len None section = None
type_by_len (Some len) section = type_in len (entry_of (codes "RecordTypeValue") section)

unfoldable pub type_of : Option ℕ → SectionText → Option (List ℕ)
type_of len section = type_by_len len section
