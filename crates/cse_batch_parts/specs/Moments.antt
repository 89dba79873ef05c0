-- What the events of a case leave: those of a record, of its occurrences and items, and all of them.
use Rattle.std.specs.Prelude.{◌≡◌, ℕ, List, Some}
use Rattle.cse_case.specs.Case.{CaseText}
use Rattle.cse_verify.specs.CaseEvents.{Moment, case_events, item_events, occurrence_events, record_events, records_events}
use Rattle.cse_decks.specs.Store.{Kept}
use Rattle.cse_report.specs.declared.reports.Reports.{Reports}
use Rattle.cse_steps.specs.Fits.{occurrences_in}
use Rattle.cse_verify.specs.Verified.{VerifiedProgram}
use Rattle.cse_batch_parts.specs.Scene.{scene, scene_after, scene_after_all}

-- ---- the events of a program at a case

abbrev pub Moments : Type 0
Moments = VerifiedProgram → CaseText → List Moment

abbrev pub of_items : ℕ → ℕ → Moments
of_items number occurrence v case = item_events number occurrence 0 v.image.lists.items

abbrev pub of_occurrences : ℕ → Moments
of_occurrences number v case = occurrence_events number v.image.lists.items 1 (occurrences_in (Some case) number)

abbrev pub of_record : ℕ → Moments
of_record number v case = record_events v.image.lists.items number (occurrences_in (Some case) number)

abbrev pub of_records : Moments
of_records v case = records_events v.image.lists.items (occurrences_in (Some case)) v.image.lists.order

abbrev pub of_case : Moments
of_case v case = case_events v.image (occurrences_in (Some case))

-- ---- what they leave

-- the case, what is kept and the reports after an event
abbrev pub Leaves : VerifiedProgram → CaseText → Kept → Reports → Moment → CaseText → Kept → Reports → Type 0
Leaves v case store reports m case' store' reports' = scene (Some case') store' reports' ≡ scene_after v (scene (Some case) store reports) m

-- after events, one after the other
abbrev pub AllLeave : VerifiedProgram → CaseText → Kept → Reports → Moments → CaseText → Kept → Reports → Type 0
AllLeave v case store reports of case' store' reports' = scene (Some case') store' reports' ≡ scene_after_all v (scene (Some case) store reports) (of v case)
