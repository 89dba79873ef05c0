-- How many steps the events of a case, and those of the application, may take.
use Rattle.std.specs.Prelude.{ℕ, ◌*◌, slice_get}
use Rattle.std.specs.List.{sum_by}
use Rattle.std.specs.Option.{option_map_or}
use Rattle.cse_image_parts.specs.declared.entries.EventCode.{EventCode}
use Rattle.cse_image_parts.specs.declared.entries.EventCode.TheVariants as codes
use Rattle.cse_image_parts.specs.Image.{Image, Lists}
use Rattle.cse_code_typing.specs.Skeleton.{most_occurrences}
use Rattle.cse_verify.specs.Bound.{bound}

-- the most occurrences of the record of an item; 0 where there is no such item or record
abbrev pub most_of_item : Lists → ℕ → ℕ
most_of_item x item = option_map_or (λ i. most_occurrences x.records i.owner) (slice_get x.items item) 0

-- how often an event may come in a case: one of the level or of a record once, one of an item once for
-- each occurrence, one of the application never
abbrev pub times_in_case : Lists → EventCode → ℕ → ℕ
times_in_case x codes.ApplicationPreproc index = 0
times_in_case x codes.ApplicationPostproc index = 0
times_in_case x codes.LevelPreproc index = 1
times_in_case x codes.LevelPostproc index = 1
times_in_case x codes.RecordPreproc index = 1
times_in_case x codes.RecordPostproc index = 1
times_in_case x codes.ItemPreproc index = most_of_item x index
times_in_case x codes.ItemPostproc index = most_of_item x index

-- how often it comes in the application's preproc and postproc
abbrev pub times_in_run : EventCode → ℕ
times_in_run codes.ApplicationPreproc = 1
times_in_run codes.ApplicationPostproc = 1
times_in_run codes.LevelPreproc = 0
times_in_run codes.LevelPostproc = 0
times_in_run codes.RecordPreproc = 0
times_in_run codes.RecordPostproc = 0
times_in_run codes.ItemPreproc = 0
times_in_run codes.ItemPostproc = 0

-- the case's bound
abbrev pub case_bound : Image → ℕ
case_bound x = sum_by (λ e. times_in_case x.lists e.code e.index * bound x e.routine) x.lists.events

-- the run's bound: that of the application's events
abbrev pub run_bound : Image → ℕ
run_bound x = sum_by (λ e. times_in_run e.code * bound x e.routine) x.lists.events
