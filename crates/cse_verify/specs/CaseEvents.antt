-- The events of a case, one after the other, and the steps that they may take.
use Rattle.std.specs.Prelude.{ℕ, zero, suc, ◌≤◌, ◌==◌, if◌then◌else◌, List, [], ◌∷◌, ◌++◌, count_by}
use Rattle.std.specs.List.{sum_by}
use Rattle.std.specs.Option.{option_map_or}
use Rattle.cse_value.specs.declared.shape.ItemShape.{ItemShape}
use Rattle.cse_image_parts.specs.declared.entries.Event.{Event}
use Rattle.cse_image_parts.specs.declared.entries.EventCode.{EventCode}
use Rattle.cse_image_parts.specs.declared.entries.EventCode.TheVariants.{LevelPreproc, LevelPostproc, RecordPreproc, RecordPostproc, ItemPreproc, ItemPostproc}
use Rattle.cse_image_parts.specs.declared.entries.EventEntry.{EventEntry}
use Rattle.cse_image_parts.specs.Image.{Image}
use Rattle.cse_code_typing.specs.Handlers.{is_of, routine_of}
use Rattle.cse_code_typing.specs.Skeleton.{most_occurrences}
use Rattle.cse_verify.specs.Bound.{bound}
use Rattle.cse_verify.specs.EventBound.{times_in_case}

abbrev pub event : EventCode → ℕ → Event
event code index = record { code = code; index = index }

-- an event as it comes: with the occurrence that it is of, from 1, where it is an item's, and else 0
pub record Moment : Type 0 where
  pub event : Event
  pub occurrence : ℕ

abbrev pub moment : EventCode → ℕ → ℕ → Moment
moment code index o = record { event = event code index; occurrence = o }

-- the preproc and postproc of each item of record r, in order, for its occurrence o; the first item has
-- the number k
abbrev pub item_events : ℕ → ℕ → ℕ → List ItemShape → List Moment
item_events r o k [] = []
item_events r o k (item ∷ items) =
    (if item.owner == r then moment ItemPreproc k o ∷ moment ItemPostproc k o ∷ [] else []) ++ item_events r o (suc k) items

-- the same for n occurrences, the first of them o
abbrev pub occurrence_events : ℕ → List ItemShape → ℕ → ℕ → List Moment
occurrence_events r items o zero = []
occurrence_events r items o (suc n) = item_events r o 0 items ++ occurrence_events r items (suc o) n

-- the events of record r with n occurrences
abbrev pub record_events : List ItemShape → ℕ → ℕ → List Moment
record_events items r n = moment RecordPreproc r 0 ∷ occurrence_events r items 1 n ++ moment RecordPostproc r 0 ∷ []

-- those of the records in edit order, each with its number of occurrences
abbrev pub records_events : List ItemShape → (ℕ → ℕ) → List ℕ → List Moment
records_events items occurrences [] = []
records_events items occurrences (r ∷ rs) = record_events items r (occurrences r) ++ records_events items occurrences rs

-- the events of a case, in the order in which they run
abbrev pub case_events : Image → (ℕ → ℕ) → List Moment
case_events x occurrences =
    moment LevelPreproc 0 0 ∷ records_events x.lists.items occurrences x.lists.order ++ moment LevelPostproc 0 0 ∷ []

-- a case has at most as many occurrences of each record as the record may have
abbrev pub KeepsMost : Image → (ℕ → ℕ) → Type 0
KeepsMost x occurrences = (r : ℕ) → occurrences r ≤ most_occurrences x.lists.records r

-- ---- what they may take

-- the most steps of one event; none, where the program has no routine for it
abbrev pub event_bound : Image → Event → ℕ
event_bound x e = option_map_or (bound x) (routine_of x.lists.events e) 0

-- the most steps of events, one after the other
abbrev pub events_bound : Image → List Moment → ℕ
events_bound x events = sum_by (λ m. event_bound x m.event) events

-- no event comes more often than it may in a case
abbrev pub KeepsTimes : Image → List Moment → Type 0
KeepsTimes x events =
    (entry : EventEntry) → count_by (λ m. is_of m.event entry) events ≤ times_in_case x.lists entry.code entry.index
