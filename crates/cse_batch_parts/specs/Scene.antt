-- What events change: the case, what is kept, and the reports as they are held.
use Rattle.std.specs.Prelude.{List, [], ◌∷◌, Option, Some}
use Rattle.cse_case.specs.Case.{CaseText}
use Rattle.cse_verify.specs.CaseEvents.{Moment}
use Rattle.cse_decks.specs.Store.{Kept}
use Rattle.cse_report.specs.Held.{Held}
use Rattle.cse_report.specs.AllReported.{all_reported}
use Rattle.cse_report.specs.Frequency.{Table, all_imputed}
use Rattle.cse_report.specs.declared.reports.Reports.{Reports}
use Rattle.cse_verify.specs.Verified.{VerifiedProgram}
use Rattle.cse_steps.specs.State.{World, world_of}
use Rattle.cse_steps.specs.Fits.{FitsWorld}
use Rattle.cse_batch_parts.specs.Events.{end_of}
use Rattle.cse_batch_parts.specs.Batch.{reports_of}

pub record Scene : Type 0 where
  pub case : Option CaseText
  pub store : Kept
  pub listing : Held
  pub frequencies : List Table

abbrev pub scene : Option CaseText → Kept → Reports → Scene
scene case store reports = record { case = case; store = store; listing = reports.listing; frequencies = reports.frequencies }

-- with the case and the store of a world, and what was told in it
abbrev pub told_to : Scene → World → Scene
told_to s w = record { case = w.case; store = w.store; listing = all_reported s.listing (reports_of w.told); frequencies = all_imputed s.frequencies w.told.imputed }

-- after an event
unfoldable pub scene_after : VerifiedProgram → Scene → Moment → Scene
scene_after v s m = told_to s (end_of v (world_of s.case s.store) m).world

-- after events, one after the other
abbrev pub scene_after_all : VerifiedProgram → Scene → List Moment → Scene
scene_after_all v s [] = s
scene_after_all v s (m ∷ ms) = scene_after_all v (scene_after v s m) ms

-- The case and the store fit where they came from this case, with its occurrences.
abbrev pub GoesOn : VerifiedProgram → CaseText → CaseText → Kept → Type 0
GoesOn v before now store = FitsWorld v (Some before) (world_of (Some now) store)
