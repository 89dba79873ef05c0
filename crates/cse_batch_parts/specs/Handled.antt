-- The events of a case that a program has a routine for.
use Rattle.std.specs.Prelude.{◌≡◌, ◌<◌, ◌==◌, ◌||◌, nat_lt, ℕ, suc, Bool, if◌then◌else◌, List, [], ◌∷◌, ◌++◌, length, map, filter, is_some}
use Rattle.std.specs.List.{AllByRecursion, filter_map}
use Rattle.cse_value.specs.declared.shape.ItemShape.{ItemShape}
use Rattle.cse_dict.specs.Dictionary.{shape_of}
use Rattle.cse_image_parts.specs.declared.entries.Event.{Event}
use Rattle.cse_image_parts.specs.declared.entries.EventCode.TheVariants.{LevelPreproc, LevelPostproc, RecordPreproc, RecordPostproc, ItemPreproc, ItemPostproc}
use Rattle.cse_image_parts.specs.Image.{Image}
use Rattle.cse_verify.specs.CaseEvents.{event}
use Rattle.cse_verify.specs.Verified.{VerifiedProgram}
use Rattle.cse_steps.specs.declared.handled.Handled.{Handled}
use Rattle.cse_steps.specs.Handled.{handled_by}
use Rattle.cse_batch_parts.specs.declared.handled.HandledRecord.{HandledRecord}
use Rattle.cse_batch_parts.specs.declared.handled.HandledEvents.{HandledEvents}

abbrev pub has_routine : Image → Event → Bool
has_routine x e = is_some (handled_by x e)

-- the preproc and postproc of each item of record r, in order; the first item has the number k
abbrev pub events_of_items : ℕ → ℕ → List ItemShape → List Event
events_of_items r k [] = []
events_of_items r k (item ∷ items) = (if item.owner == r then event ItemPreproc k ∷ event ItemPostproc k ∷ [] else []) ++ events_of_items r (suc k) items

-- those of them that have a routine, with it
abbrev pub handled_items : Image → ℕ → List Handled
handled_items x r = filter_map (handled_by x) (events_of_items r 0 x.lists.items)

-- an event of a record, or of its items, has a routine
abbrev pub is_handled : Image → ℕ → Bool
is_handled x r = (has_routine x (event RecordPreproc r) || nat_lt 0 (length (handled_items x r))) || has_routine x (event RecordPostproc r)

abbrev pub number_of : HandledRecord → ℕ
number_of h = h.number

-- the record is there, and these are those of its events that have a routine
pub record IsHandledRecord (v : VerifiedProgram) (h : HandledRecord) : Type 0 where
  pub there : h.number < length (shape_of v.dictionary).records
  pub preproc : h.preproc ≡ handled_by v.image (event RecordPreproc h.number)
  pub items : h.items.items ≡ handled_items v.image h.number
  pub postproc : h.postproc ≡ handled_by v.image (event RecordPostproc h.number)

-- these are those of a case; the records that have any are there, in edit order
pub record AreHandled (v : VerifiedProgram) (h : HandledEvents) : Type 0 where
  pub preproc : h.preproc ≡ handled_by v.image (event LevelPreproc 0)
  pub numbers : map number_of h.records.items ≡ filter (is_handled v.image) v.image.lists.order
  pub each : AllByRecursion (IsHandledRecord v) h.records.items
  pub postproc : h.postproc ≡ handled_by v.image (event LevelPostproc 0)
