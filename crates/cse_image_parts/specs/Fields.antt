-- The rules of the fields of variables, arrays, routines and events.
use Rattle.std.specs.Prelude.{ℕ, ◌+◌, ◌*◌, ◌-◌, Bool, true, ◌&&◌, ◌||◌, ◌==◌, List, [], ◌∷◌, length, Option, None, Some, nat_le, nat_lt}
use Rattle.std.specs.List.{sum_by, slice_get}
use Rattle.cse_image_parts.specs.declared.entries.GlobalKind.{GlobalKind}
use Rattle.cse_image_parts.specs.declared.entries.GlobalKind.TheVariants as globals
use Rattle.cse_image_parts.specs.declared.entries.LocalKind.{LocalKind}
use Rattle.cse_image_parts.specs.declared.entries.LocalKind.TheVariants as locals
use Rattle.cse_image_parts.specs.declared.entries.EventCode.{EventCode}
use Rattle.cse_image_parts.specs.declared.entries.EventEntry.{EventEntry}
use Rattle.cse_image_parts.specs.Limits.{most_dimensions, most_cells, most_instructions, most_characters}
use Rattle.cse_image_parts.specs.Image.{ArrayLists, RoutineLists}
use Rattle.cse_image_parts.specs.Codes.{event_code}

-- ---- variables

-- the length of a text variable
abbrev pub is_text_length : ℕ → Bool
is_text_length n = nat_le 1 n && nat_le n most_characters

-- a global has the length of a text, or 0 where it is none
abbrev pub fits_global_length : GlobalKind → ℕ → Bool
fits_global_length globals.Number n = n == 0
fits_global_length globals.Text n = is_text_length n

-- so has a local
abbrev pub fits_local_length : LocalKind → ℕ → Bool
fits_local_length locals.Number n = n == 0
fits_local_length locals.Text n = is_text_length n
fits_local_length locals.Occurrence n = n == 0

-- an occurrence names its record, and another kind has 0
abbrev pub fits_owner : LocalKind → ℕ → Bool
fits_owner locals.Number owner = owner == 0
fits_owner locals.Text owner = owner == 0
fits_owner locals.Occurrence owner = true

-- an occurrence is a parameter, one of the first locals
abbrev pub fits_kind : ℕ → ℕ → LocalKind → Bool
fits_kind parameters index locals.Number = true
fits_kind parameters index locals.Text = true
fits_kind parameters index locals.Occurrence = nat_lt index parameters

-- the parameters are among the locals
abbrev pub are_locals : ℕ → ℕ → Bool
are_locals parameters count = nat_le parameters count

-- ---- limits

-- a counting loop may take a turn
abbrev pub is_limit : ℕ → Bool
is_limit n = nat_lt 0 n

-- ---- arrays

abbrev pub is_dimension_count : ℕ → Bool
is_dimension_count n = nat_le 1 n && nat_le n most_dimensions

abbrev pub is_dimension : ℕ → Bool
is_dimension n = nat_lt 0 n

-- how many cells these dimensions make
abbrev pub product : List ℕ → ℕ
product [] = 1
product (d ∷ ds) = d * product ds

-- the cells of all these arrays
abbrev pub cells_in : List ArrayLists → ℕ
cells_in arrays = sum_by (λ x. product x.dimensions) arrays

-- beside so many cells there is room for an array of these dimensions
abbrev pub is_room_for_cells : ℕ → List ℕ → Bool
is_room_for_cells before dimensions = nat_le (before + product dimensions) most_cells

-- an array has at most as many starting cells as cells
abbrev pub fits_cells : List ℕ → ℕ → Bool
fits_cells dimensions count = nat_le count (product dimensions)

-- ---- routines

-- the instructions of all these routines
abbrev pub instructions_in : List RoutineLists → ℕ
instructions_in routines = sum_by (λ r. r.instructions) routines

-- a routine has an instruction, and beside so many there is room for its own
abbrev pub is_room_for_code : ℕ → ℕ → Bool
is_room_for_code before n = nat_le 1 n && nat_le (before + n) most_instructions

-- ---- events

abbrev pub last_event : List EventEntry → Option EventEntry
last_event events = slice_get events (length events - 1)

-- the event that was last, if any, comes before this one: by code, then by index
abbrev pub is_after : Option EventEntry → EventCode → ℕ → Bool
is_after None code index = true
is_after (Some e) code index = nat_lt (event_code e.code) (event_code code) || ((event_code e.code == event_code code) && nat_lt e.index index)
