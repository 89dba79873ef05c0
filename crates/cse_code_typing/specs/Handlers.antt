-- Which routine an event runs.
use Rattle.std.specs.Prelude.{◌≡◌, ◌<◌, ℕ, ◌+◌, ◌*◌, Bool, ◌&&◌, ◌==◌, List, Option, Some, slice_get, find, option_map, IsTrue}
use Rattle.cse_value.specs.Shape.{ShapeLists}
use Rattle.cse_image_parts.specs.declared.entries.Event.{Event}
use Rattle.cse_image_parts.specs.declared.entries.EventCode.{EventCode}
use Rattle.cse_image_parts.specs.declared.entries.EventEntry.{EventEntry}
use Rattle.cse_image_parts.specs.Codes.{event_code}
use Rattle.cse_image_parts.specs.Image.{Image, RoutineLists}
use Rattle.cse_code_typing.specs.Order.{handles}
use Rattle.cse_code_typing.specs.Typed.{IsTyped}

-- the entry is that of the event
abbrev pub is_of : Event → EventEntry → Bool
is_of e entry = (event_code entry.code == event_code e.code) && (entry.index == e.index)

-- the routine of the event's entry; none, where there is no entry of it
abbrev pub routine_of : List EventEntry → Event → Option ℕ
routine_of events e = option_map (λ entry. entry.routine) (find (is_of e) events)

-- the order of events, as a number: by code, then by index
abbrev pub event_order : EventCode → ℕ → ℕ
event_order code index = event_code code * 65536 + index

-- the routine is there, and is one that the event may run: of its ambient, with the parameters that it gives
pub record IsHandler (s : ShapeLists) (x : Image) (e : Event) (r : ℕ) : Type 0 where
  pub routine : RoutineLists
  pub there : slice_get x.lists.routines r ≡ Some routine
  pub handles : IsTrue (handles s e.code e.index routine)

-- in a program that is typed each event that has a routine has one that handles it
abbrev pub EventsRunHandlers : Type 0
EventsRunHandlers = (s : ShapeLists) (x : Image) (e : Event) (r : ℕ) → IsTyped s x → routine_of x.lists.events e ≡ Some r → IsHandler s x e r
