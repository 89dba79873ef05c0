-- Each event of a source runs the routine of its handler.
use Rattle.std.specs.Prelude.{◌≡◌, ℕ, ◌+◌, List, [], map, Some, slice_get}
use Rattle.std.specs.List.{IsDistinct}
use Rattle.cse_image_parts.specs.Codes.{event_code}
use Rattle.cse_compile.specs.Outline.{Handler}
use Rattle.cse_compile.specs.Events.{is_key, table_from, routine_at}

-- the event's code and index
abbrev pub key_of : Handler → ℕ × ℕ
key_of x = (event_code x.event.code, x.event.index)

-- Where no two handlers are of one event, the routine of each one's event is its own; they are the routines from this number on.
abbrev pub HandlersKeepNumbers : Type 0
HandlersKeepNumbers =
    (n k : ℕ) (xs : List Handler) (x : Handler) → IsDistinct is_key (map key_of xs) → slice_get xs k ≡ Some x
    → routine_at (table_from [] n xs) x.event.code x.event.index ≡ Some (n + k)
