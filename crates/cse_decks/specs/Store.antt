-- What a program keeps over the whole run: the values of its globals, and the cells of its arrays, the
-- last index fastest.
use Rattle.std.specs.Prelude.{◌≡◌, ◌-◌, ℕ, true, pos, List, [], ◌++◌, length, map, min, replicate, Option, Some, None, slice_get, slice_set, option_and_then}
use Rattle.std.specs.List.{slice_index_or, AllByRecursion}
use Rattle.cse_value.specs.declared.number.Num.{Num}
use Rattle.cse_value.specs.declared.number.Num.TheVariants.{Whole}
use Rattle.cse_value.specs.Texts.{blanks}
use Rattle.cse_value.specs.Field.{fits_num, put_text}
use Rattle.cse_image_parts.specs.declared.entries.GlobalKind.{GlobalKind}
use Rattle.cse_image_parts.specs.declared.entries.GlobalKind.TheVariants as kinds
use Rattle.cse_image_parts.specs.declared.entries.GlobalVariable.{GlobalVariable}
use Rattle.cse_image_parts.specs.Fields.{product}
use Rattle.cse_image_parts.specs.Image.{Image, ArrayLists}
use Rattle.cse_decks.specs.declared.global.GlobalValue.{GlobalValue}
use Rattle.cse_decks.specs.declared.global.GlobalValue.TheVariants.{Number, Words}

pub record Kept : Type 0 where
  pub globals : List GlobalValue
  pub arrays : List (List Num)

-- ---- cells

-- 64 bits hold each value
abbrev pub CellsFit : List Num → Type 0
CellsFit cells = AllByRecursion (λ v. fits_num v ≡ true) cells

abbrev pub ArraysFit : List (List Num) → Type 0
ArraysFit arrays = AllByRecursion CellsFit arrays

-- ---- a store that fits a program

-- the declaration that a value belongs to: its kind, and a text's length
abbrev pub variable_of : GlobalValue → GlobalVariable
variable_of (Number x) = record { kind = kinds.Number; length = 0 }
variable_of (Words text) = record { kind = kinds.Text; length = length text.items }

-- how many cells an array has
abbrev pub cell_count : ArrayLists → ℕ
cell_count a = product a.dimensions

-- the declared globals with their kinds and lengths, and the declared arrays with their cells
pub record StoreFits (x : Image) (s : Kept) : Type 0 where
  pub globals : map variable_of s.globals ≡ x.lists.globals
  pub arrays : map (λ cells. length cells) s.arrays ≡ map cell_count x.lists.arrays

-- ---- what a run starts with

-- a number starts at 0, and a text blank; a declared length is at most 255
abbrev pub first_by_kind : GlobalKind → ℕ → GlobalValue
first_by_kind kinds.Number n = Number (Whole (pos 0))
first_by_kind kinds.Text n = Words (record { items = blanks (min n 255) })

abbrev pub first_global : GlobalVariable → GlobalValue
first_global g = first_by_kind g.kind g.length

-- the declared cells, and then 0
abbrev pub first_cells : ArrayLists → List Num
first_cells a = map Whole a.cells ++ replicate (cell_count a - length a.cells) (Whole (pos 0))

unfoldable pub first_kept : Image → Kept
first_kept x = record { globals = map first_global x.lists.globals; arrays = map first_cells x.lists.arrays }

-- ---- one value, and the store with another one there

abbrev pub number_in : GlobalValue → Option Num
number_in (Number x) = Some x
number_in (Words text) = None

abbrev pub text_in : GlobalValue → Option (List ℕ)
text_in (Number x) = None
text_in (Words text) = Some text.items

-- the number of a global, if it is there and is a number
abbrev pub number_at : Kept → ℕ → Option Num
number_at s g = option_and_then number_in (slice_get s.globals g)

-- the text of a global, if it is there and is a text
abbrev pub text_at : Kept → ℕ → Option (List ℕ)
text_at s g = option_and_then text_in (slice_get s.globals g)

-- the cells of an array, none where it isn't there
abbrev pub cells_of : Kept → ℕ → List Num
cells_of s a = slice_index_or s.arrays a []

-- the store with another value of a global
abbrev pub with_global : Kept → ℕ → GlobalValue → Kept
with_global s g v = record { globals = slice_set s.globals g v; arrays = s.arrays }

-- the value of a global after a write of a text, which is cut or padded to the global's length
abbrev pub rewritten : List ℕ → GlobalValue → GlobalValue
rewritten text (Number x) = Number x
rewritten text (Words before) = Words (record { items = put_text (length before.items) text })

-- the store with another value of a cell
abbrev pub with_cell : Kept → ℕ → ℕ → Num → Kept
with_cell s a place v = record { globals = s.globals; arrays = slice_set s.arrays a (slice_set (cells_of s a) place v) }
