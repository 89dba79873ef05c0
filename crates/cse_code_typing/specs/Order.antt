-- The edit order and the events of a program.
use Rattle.std.specs.Prelude.{◌≡◌, ℕ, Bool, true, false, not, ◌&&◌, ◌==◌, nat_lt, List, length, count_by, if◌then◌else◌, Option, None, Some, slice_get}
use Rattle.std.specs.List.{list_all}
use Rattle.cse_value.specs.declared.shape.ItemShape.{ItemShape}
use Rattle.cse_value.specs.Shape.{ShapeLists}
use Rattle.cse_image_parts.specs.declared.entries.LocalKind.{LocalKind}
use Rattle.cse_image_parts.specs.declared.entries.LocalKind.TheVariants as locals
use Rattle.cse_image_parts.specs.declared.entries.Local.{Local}
use Rattle.cse_image_parts.specs.declared.entries.Ambient.{Ambient}
use Rattle.cse_image_parts.specs.declared.entries.Ambient.TheVariants as ambients
use Rattle.cse_image_parts.specs.declared.entries.Gift.{Gift}
use Rattle.cse_image_parts.specs.declared.entries.Gift.TheVariants as gifts
use Rattle.cse_image_parts.specs.declared.entries.EventCode.{EventCode}
use Rattle.cse_image_parts.specs.declared.entries.EventCode.TheVariants as codes
use Rattle.cse_image_parts.specs.declared.entries.EventEntry.{EventEntry}
use Rattle.cse_image_parts.specs.Image.{Lists, RoutineLists}
use Rattle.cse_code_typing.specs.Signature.{is_id}

-- the order names each of n records exactly once, and nothing else
abbrev pub NamesEachOnce : ℕ → List ℕ → Type 0
NamesEachOnce n order = (k : ℕ) → count_by (λ o. o == k) order ≡ (if nat_lt k n then 1 else 0)

abbrev pub is_run : Ambient → Bool
is_run ambients.Run = true
is_run ambients.Case = false

abbrev pub gives_nothing : Gift → Bool
gives_nothing gifts.Nothing = true
gives_nothing gifts.Number = false
gives_nothing gifts.Text = false

-- a routine of this ambient that takes so many parameters and gives nothing
abbrev pub is_handler : Bool → ℕ → RoutineLists → Bool
is_handler run parameters x = (if run then is_run x.ambient else not (is_run x.ambient)) && ((x.parameters == parameters) && gives_nothing x.gives)

-- the local is an occurrence of the record
abbrev pub occurs_in : LocalKind → ℕ → ℕ → Bool
occurs_in locals.Number owner r = false
occurs_in locals.Text owner r = false
occurs_in locals.Occurrence owner r = owner == r

abbrev pub is_occurrence_of : ℕ → Option Local → Bool
is_occurrence_of r None = false
is_occurrence_of r (Some x) = occurs_in x.kind x.owner r

-- a case routine with one parameter, an occurrence of the record of an item that is no id item
abbrev pub handles_item : Option ItemShape → RoutineLists → Bool
handles_item None x = false
handles_item (Some item) x = not (is_id item) && (is_handler false 1 x && is_occurrence_of item.owner (slice_get x.locals 0))

-- what the routine of an event has to be, by the event's code and index
abbrev pub handles : ShapeLists → EventCode → ℕ → RoutineLists → Bool
handles s codes.ApplicationPreproc index x = (index == 0) && is_handler true 0 x
handles s codes.ApplicationPostproc index x = (index == 0) && is_handler true 0 x
handles s codes.LevelPreproc index x = (index == 0) && is_handler false 0 x
handles s codes.LevelPostproc index x = (index == 0) && is_handler false 0 x
handles s codes.RecordPreproc index x = nat_lt index (length s.records) && is_handler false 0 x
handles s codes.RecordPostproc index x = nat_lt index (length s.records) && is_handler false 0 x
handles s codes.ItemPreproc index x = handles_item (slice_get s.items index) x
handles s codes.ItemPostproc index x = handles_item (slice_get s.items index) x

abbrev pub is_handled_by : ShapeLists → EventEntry → Option RoutineLists → Bool
is_handled_by s e None = false
is_handled_by s e (Some x) = handles s e.code e.index x

-- an event fits: its routine is there and is what the event wants
abbrev pub fits_event : ShapeLists → Lists → EventEntry → Bool
fits_event s x e = is_handled_by s e (slice_get x.routines e.routine)

abbrev pub all_events_fit : ShapeLists → Lists → Bool
all_events_fit s x = list_all (fits_event s x) x.events
