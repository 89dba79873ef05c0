-- The columns of a field after a number or a text was written into it.
use Rattle.std.specs.Prelude.{◌≡◌, ◌<◌, ◌≤◌, ℕ, List, length}
use Rattle.cse_value.specs.declared.shape.ItemKind.{ItemKind}
use Rattle.cse_value.specs.declared.shape.ItemKind.TheVariants.{Number as ANumber, Text as AText}
use Rattle.cse_value.specs.Field.{put, put_text}
use Rattle.cse_dict.specs.Dictionary.{code_at, zero_fill_at}
use Rattle.cse_case.specs.declared.field.ItemEntry.{ItemEntry}
use Rattle.cse_case.specs.declared.field.ItemEntry.TheVariants.{Number, Words}

-- the item whose zeros and code a number has is there
abbrev pub IsThere : ItemEntry → Type 0
IsThere (Number value dictionary item) = item < length dictionary.now.items
IsThere (Words text) = Unit {0}

-- it is written into an item of this kind
abbrev pub IsFor : ItemEntry → ItemKind → Type 0
IsFor (Number value dictionary item) kind = kind ≡ ANumber
IsFor (Words text) kind = kind ≡ AText

-- a number has few columns
abbrev pub IsShort : ItemEntry → ℕ → Type 0
IsShort (Number value dictionary item) width = width ≤ 15
IsShort (Words text) width = Unit {0}

abbrev pub entry_columns : ItemEntry → ℕ → List ℕ
entry_columns (Number value dictionary item) width = put width value (zero_fill_at dictionary.now item) (code_at dictionary.now item)
entry_columns (Words text) width = put_text width text.now.items
