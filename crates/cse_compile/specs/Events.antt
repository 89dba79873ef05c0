-- The events of a program.
use Rattle.std.specs.Prelude.{ℕ, ◌+◌, Bool, ◌&&◌, nat_eq, List, [], ◌∷◌, ◌++◌, Option, Some, None}
use Rattle.std.specs.List.{flat_map, range_with_len}
use Rattle.std.specs.Map.{lookup}
use Rattle.indexmap.specs.IndexMap.{insert_entry}
use Rattle.cse_image_parts.specs.Codes.{event_code}
use Rattle.cse_image_parts.specs.declared.entries.Event.{Event}
use Rattle.cse_image_parts.specs.declared.entries.EventEntry.{EventEntry}
use Rattle.cse_image_parts.specs.declared.entries.EventCode.{EventCode}
use Rattle.cse_image_parts.specs.declared.entries.EventCode.TheVariants as codes
use Rattle.cse_compile.specs.Outline.{Handler}

-- the numbers of routines, by the code and the index of the event that runs them
abbrev pub Table : Type 0
Table = List ((ℕ × ℕ) × ℕ)

abbrev pub is_key : ℕ × ℕ → ℕ × ℕ → Bool
is_key x y = nat_eq x.0 y.0 && nat_eq x.1 y.1

abbrev pub with_event : Table → Event → ℕ → Table
with_event table event routine = insert_entry is_key table (event_code event.code, event.index) routine

-- the events of handlers, which are the routines from this number on
abbrev pub table_from : Table → ℕ → List Handler → Table
table_from table n [] = table
table_from table n (x ∷ xs) = table_from (with_event table x.event n) (n + 1) xs

abbrev pub routine_at : Table → EventCode → ℕ → Option ℕ
routine_at table code index = lookup (is_key (event_code code, index)) table

abbrev pub entry_of : EventCode → ℕ → Option ℕ → List EventEntry
entry_of code index None = []
entry_of code index (Some routine) = record { code = code; index = index; routine = routine } ∷ []

abbrev pub entry_at : Table → EventCode → ℕ → List EventEntry
entry_at table code index = entry_of code index (routine_at table code index)

-- the events of this code with an index below n, in order
abbrev pub entries_below : Table → EventCode → ℕ → List EventEntry
entries_below table code n = flat_map (entry_at table code) (range_with_len 0 n)

-- by code, and then by index
unfoldable pub entries_in : Table → ℕ → ℕ → List EventEntry
entries_in table records items =
    ((((((entries_below table codes.ApplicationPreproc 1
    ++ entries_below table codes.ApplicationPostproc 1)
    ++ entries_below table codes.LevelPreproc 1)
    ++ entries_below table codes.LevelPostproc 1)
    ++ entries_below table codes.RecordPreproc records)
    ++ entries_below table codes.RecordPostproc records)
    ++ entries_below table codes.ItemPreproc items)
    ++ entries_below table codes.ItemPostproc items
