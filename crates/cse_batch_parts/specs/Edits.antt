-- What a run of lines comes to, and an event of the application.
use Rattle.std.specs.Prelude.{◌≡◌, ℕ, Bool, List, Some}
use Rattle.cse_value.specs.declared.device.Output.{Ghosts as Takes}
use Rattle.cse_image_parts.specs.declared.entries.EventCode.{EventCode}
use Rattle.cse_case.specs.Case.{CaseText}
use Rattle.cse_verify.specs.CaseEvents.{moment}
use Rattle.cse_decks.specs.Store.{Kept}
use Rattle.cse_value.specs.Gathering.{Going, Gathering, behind}
use Rattle.cse_value.specs.declared.gatherer.Gatherer.{Gatherer}
use Rattle.cse_report.specs.Held.{begun as no_reports, flushed}
use Rattle.cse_report.specs.Unended.{unended}
use Rattle.cse_report.specs.AllReported.{all_reported}
use Rattle.cse_report.specs.Frequency.{all_imputed}
use Rattle.cse_report.specs.declared.reports.Reports.{Reports}
use Rattle.cse_verify.specs.Verified.{VerifiedProgram}
use Rattle.cse_batch_parts.specs.Events.{after_moment, edited}
use Rattle.cse_batch_parts.specs.Batch.{Progress, after_application, application_reports, case_reports, tables_of, without_case}

-- the case and the store are those after its events, and its lines and messages were reported
pub record Edits (v : VerifiedProgram) (t : CaseText) (store : Kept) (old : Reports) (t' : CaseText) (store' : Kept) (new : Reports) : Type 0 where
  pub case : (edited v store t).case ≡ Some t'
  pub store_is : store' ≡ (edited v store t).store
  pub listing : new.listing ≡ all_reported old.listing (case_reports t (edited v store t).told)
  pub frequencies : new.frequencies ≡ all_imputed old.frequencies (edited v store t).told.imputed

-- the same of an event of the application
pub record Applies (v : VerifiedProgram) (code : EventCode) (store : Kept) (old : Reports) (store' : Kept) (new : Reports) : Type 0 where
  pub store_is : store' ≡ (after_moment v (without_case store) (moment code 0 0)).store
  pub listing : new.listing ≡ all_reported old.listing (application_reports (after_moment v (without_case store) (moment code 0 0)).told)
  pub frequencies : new.frequencies ≡ all_imputed old.frequencies (after_moment v (without_case store) (moment code 0 0)).told.imputed

-- What a batch keeps that has come so far: its store and its tables, and its reports, whose lines were all put before the listing.
pub record Keeps (v : VerifiedProgram) (p : Progress) (store : Kept) (reports : Reports) (start : List ℕ) (sound : Bool) (g : Going) : Type 0 where
  pub store_is : store ≡ p.store
  pub listing : reports.listing ≡ flushed (all_reported (no_reports v.image.lists.messages) p.reports)
  pub frequencies : reports.frequencies ≡ tables_of v p.imputed
  pub list : Gathering start sound g (unended v.image.lists.messages p.reports)

-- What it kept before an event of the application it keeps after that event, whose lines were put before the listing too.
abbrev pub KeepsOn : {L : Type 0} → Takes L → VerifiedProgram → EventCode → Kept → Reports → Gatherer → L → Kept → Reports → Gatherer → L → Type 0
KeepsOn l v code store old listed listing store' new listed' listing' = (p : Progress) (start : List ℕ) (sound : Bool)
    → Keeps v p store old start sound (behind l.taken l.has_failed listing listed)
    → Keeps v (after_application v code p) store' new start sound (behind l.taken l.has_failed listing' listed')
