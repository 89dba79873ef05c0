-- What a run of lines comes to, and an event of the application.
use Rattle.std.proofs.Common.{◌≡◌, ℕ, Bool, true, List, [], ◌∷◌, ◌++◌, length, Option, Some, None, sym, ap, ◌∙◌, subst}
use Rattle.std.specs.Prelude.{replicate}
use Rattle.std.specs.Option.{option_map_or}
use Rattle.cse_value.specs.declared.number.Num.{Num}
use Rattle.cse_image_parts.specs.declared.entries.EventCode.{EventCode}
use Rattle.cse_image_parts.specs.declared.entries.EventCode.TheVariants as codes
use Rattle.cse_image_parts.specs.Image.{Image, MessageLists}
use Rattle.cse_case.specs.Line.{FileLine}
use Rattle.cse_case.specs.Run.{written_run}
use Rattle.cse_case.specs.Case.{CaseText}
use Rattle.cse_verify.specs.CaseEvents.{Moment, moment}
use Rattle.cse_decks.specs.Store.{Kept, StoreFits}
use Rattle.cse_value.specs.Gathering.{Going, Gathering, Puts}
use Rattle.cse_report.specs.Listing.{BeginsCase, BeginsRun, Report}
use Rattle.cse_report.specs.Held.{Held, begun as no_reports, flushed, reported}
use Rattle.cse_report.specs.Unended.{unended}
use Rattle.cse_report.specs.AllReported.{all_reported}
use Rattle.cse_report.specs.Frequency.{Table, all_imputed}
use Rattle.cse_report.specs.declared.reports.Reports.{Reports}
use Rattle.cse_report.proofs.ToldLaws.{flushes_between, imputes_all, all_later}
use Rattle.cse_verify.specs.Verified.{VerifiedProgram}
use Rattle.cse_steps.specs.State.{Told, World}
use Rattle.cse_steps.specs.Fits.{FitsFirst, IsThere, is_of_run}
use Rattle.cse_steps.specs.Laws.{EventsEnd}
use Rattle.cse_steps.specs.Results.{RunsTo}
use Rattle.cse_batch_parts.specs.Events.{after_moment, edited, events_of}
use Rattle.cse_batch_parts.specs.Batch.{Progress, after_application, after_run, application_reports, case_reports, next_case, reports_of, tables_of, unseen_reports, without_case}
use Rattle.cse_batch_parts.specs.Edits.{Applies, Edits, Keeps}
use Rattle.cse_batch_parts.specs.Scene.{Scene, scene, scene_after_all}
use Rattle.cse_batch_parts.proofs.EndLaws.{fits_application}
use Rattle.cse_batch_parts.proofs.EventLaws.{ends_are_final}
use Rattle.cse_batch_parts.proofs.HeldLaws.{unended_held}
use Rattle.cse_batch_parts.proofs.SceneLaws.{ran_fits, scene_is_told}

-- a heading, the unseen lines, and then the events
pub edits_of : (v : VerifiedProgram) (t t' : CaseText) (store store' : Kept) (old mid new : Reports) (ms : List Moment) → events_of v t ≡ ms
    → mid.listing ≡ all_reported old.listing (BeginsCase t.ids ∷ unseen_reports t) → mid.frequencies ≡ old.frequencies
    → scene (Some t') store' new ≡ scene_after_all v (scene (Some t) store mid) ms → Edits v t store old t' store' new
unfolding edited
edits_of v t t' store store' old mid new ms is listed same e =
    let told = edited v store t in
    let all : scene (Some t') store' new ≡ _ = e ∙ (ap (scene_after_all v (scene (Some t) store mid)) (sym is) ∙ scene_is_told v (scene (Some t) store mid) (events_of v t)) in
    record {
      case = sym (ap (λ (s : Scene). s.case) all);
      store_is = ap (λ (s : Scene). s.store) all;
      listing = ap (λ (s : Scene). s.listing) all
          ∙ (ap (λ (h : Held). all_reported h (reports_of told.told)) listed ∙ sym (all_later old.listing (BeginsCase t.ids ∷ unseen_reports t) (reports_of told.told)));
      frequencies = ap (λ (s : Scene). s.frequencies) all ∙ ap (λ (x : List Table). all_imputed x told.told.imputed) same;
    }

-- ---- an event of the application

there_in_run : (x : Image) (n : ℕ → ℕ) (code : EventCode) → is_of_run code ≡ true → IsThere x n code 0 0
there_in_run x n codes.ApplicationPreproc e = tt
there_in_run x n codes.ApplicationPostproc e = tt
there_in_run x n codes.LevelPreproc e = tt
there_in_run x n codes.LevelPostproc e = tt
there_in_run x n codes.RecordPreproc e = tt
there_in_run x n codes.RecordPostproc e = tt
there_in_run x n codes.ItemPreproc e = absurd cc
there_in_run x n codes.ItemPostproc e = absurd cc

-- it may begin
pub application_fits : (v : VerifiedProgram) (code : EventCode) (store : Kept) → is_of_run code ≡ true → StoreFits v.image store → FitsFirst v (moment code 0 0) None store
application_fits v code store of_run fit = fits_application v code store of_run (there_in_run v.image (λ r. 0) code of_run) fit

-- a heading, and then its event
pub applies_of : (v : VerifiedProgram) (code : EventCode) (store store' : Kept) (n : ℕ) (old mid new : Reports) → mid.listing ≡ reported old.listing BeginsRun → mid.frequencies ≡ old.frequencies
    → RunsTo v (moment code 0 0) None store mid n None store' new → Applies v code store old store' new
applies_of v code store store' n old mid new listed same r =
    let e = ends_are_final v (without_case store) (moment code 0 0) n None store' r.told r.ends in
    let told : (after_moment v (without_case store) (moment code 0 0)).told ≡ r.told = ap (λ (w : World). w.told) e.world in
    record {
      store_is = sym (ap (λ (w : World). w.store) e.world);
      listing = r.tells.listing ∙ (ap (λ (h : Held). all_reported h (reports_of r.told)) listed ∙ ap (λ (t : Told). all_reported old.listing (BeginsRun ∷ reports_of t)) (sym told));
      frequencies = r.tells.frequencies ∙ (ap (λ (x : List Table). all_imputed x r.told.imputed) same ∙ ap (λ (t : Told). all_imputed old.frequencies t.imputed) (sym told));
    }

-- what it leaves fits
pub application_stays : (v : VerifiedProgram) (code : EventCode) (store store' : Kept) (n : ℕ) (old new : Reports) → EventsEnd v → FitsFirst v (moment code 0 0) None store → RunsTo v (moment code 0 0) None store old n None store' new
    → StoreFits v.image store'
application_stays v code store store' n old new law fit r = (ran_fits v (moment code 0 0) None None store store' n old new law fit r).store

-- ---- what a batch keeps

-- after lines that were flushed and others that are held
flushed_on : (m : List MessageLists) (rs later : List Report) (h : Held) → h ≡ all_reported (flushed (all_reported (no_reports m) rs)) later → flushed h ≡ flushed (all_reported (no_reports m) (rs ++ later))
flushed_on m rs later h e = ap flushed e ∙ ap flushed (sym (flushes_between (no_reports m) rs later))

-- the lines that are put are those that the listing goes on with
lines_on : (m : List MessageLists) (rs later : List Report) (h : Held) → h ≡ all_reported (flushed (all_reported (no_reports m) rs)) later → unended m rs ++ h.lines ≡ unended m (rs ++ later)
lines_on m rs later h e =
    ap (λ (l : List ℕ). l ++ h.lines) (sym (unended_held m rs))
    ∙ (ap (λ (x : Held). (all_reported (no_reports m) rs).lines ++ x.lines) e
    ∙ (ap (λ (x : Held). x.lines) (sym (flushes_between (no_reports m) rs later)) ∙ unended_held m (rs ++ later)))

-- more reports and imputations, the lines of which are put
pub keeps_more : (v : VerifiedProgram) (p q : Progress) (store store' : Kept) (old mid new : Reports) (start : List ℕ) (sound : Bool) (g g' : Going) (later : List Report) (values : List (ℕ × Num))
    → q.reports ≡ p.reports ++ later → q.imputed ≡ p.imputed ++ values → store' ≡ q.store
    → mid.listing ≡ all_reported old.listing later → mid.frequencies ≡ all_imputed old.frequencies values
    → Puts g g' mid.listing.lines → new.listing ≡ flushed mid.listing → new.frequencies ≡ mid.frequencies
    → Keeps v p store old start sound g → Keeps v q store' new start sound g'
keeps_more v p q store store' old mid new start sound g g' later values reports imputed kept listed counted puts flush same k =
    let m = v.image.lists.messages in
    let held : mid.listing ≡ all_reported (flushed (all_reported (no_reports m) p.reports)) later = listed ∙ ap (λ (h : Held). all_reported h later) k.listing in
    record {
      store_is = kept;
      listing = flush ∙ (flushed_on m p.reports later mid.listing held ∙ ap (λ (rs : List Report). flushed (all_reported (no_reports m) rs)) (sym reports));
      frequencies = same ∙ (counted ∙ (ap (λ (t : List Table). all_imputed t values) k.frequencies
          ∙ (sym (imputes_all (replicate (length v.image.lists.items) []) p.imputed values) ∙ ap (tables_of v) (sym imputed))));
      list = subst (λ (l : List ℕ). Gathering start sound g' l) (lines_on m p.reports later mid.listing held ∙ ap (unended m) (sym reports)) (puts start sound (unended m p.reports) k.list);
    }

pub keeps_application : (v : VerifiedProgram) (code : EventCode) (p : Progress) (store store' : Kept) (old mid new : Reports) (start : List ℕ) (sound : Bool) (g g' : Going)
    → Applies v code store old store' mid → Puts g g' mid.listing.lines → new.listing ≡ flushed mid.listing → new.frequencies ≡ mid.frequencies
    → Keeps v p store old start sound g → Keeps v (after_application v code p) store' new start sound g'
unfolding after_application
keeps_application v code p store store' old mid new start sound g g' a puts flush same k =
    let w = after_moment v (without_case store) (moment code 0 0) in
    let told = ap (λ (s : Kept). after_moment v (without_case s) (moment code 0 0)) k.store_is in
    keeps_more v p (after_application v code p) store store' old mid new start sound g g' (application_reports w.told) w.told.imputed
    (ap (λ (x : World). p.reports ++ application_reports x.told) (sym told)) (ap (λ (x : World). p.imputed ++ x.told.imputed) (sym told)) (a.store_is ∙ ap (λ (x : World). x.store) told)
    a.listing a.frequencies puts flush same k

-- the lines of a case are put, and what it listed
pub keeps_case : (v : VerifiedProgram) (p : Progress) (lines : List FileLine) (t t' : CaseText) (store store' : Kept) (old mid new : Reports) (start : List ℕ) (sound : Bool) (g g' : Going)
    → t ≡ next_case v p lines → Edits v t store old t' store' mid → Puts g g' mid.listing.lines → new.listing ≡ flushed mid.listing → new.frequencies ≡ mid.frequencies
    → Keeps v p store old start sound g → Keeps v (after_run v p lines) store' new start sound g'
unfolding after_run
keeps_case v p lines t t' store store' old mid new start sound g g' is e puts flush same k =
    let told = ap (λ (s : Kept). edited v s t) k.store_is ∙ ap (edited v p.store) is in
    keeps_more v p (after_run v p lines) store store' old mid new start sound g g' (case_reports t (edited v store t).told) (edited v store t).told.imputed
    (ap (λ (x : World). p.reports ++ case_reports (next_case v p lines) x.told) (sym told) ∙ ap (λ (c : CaseText). p.reports ++ case_reports c (edited v store t).told) (sym is))
    (ap (λ (x : World). p.imputed ++ x.told.imputed) (sym told)) (e.store_is ∙ ap (λ (x : World). x.store) told)
    e.listing e.frequencies puts flush same k

-- the lines that a run leaves
pub out_of_case : (v : VerifiedProgram) (p : Progress) (lines : List FileLine) (t t' : CaseText) (store store' : Kept) (old mid : Reports) → store ≡ p.store → t ≡ next_case v p lines → Edits v t store old t' store' mid
    → (after_run v p lines).out ≡ p.out ++ written_run t'.run
unfolding after_run
out_of_case v p lines t t' store store' old mid kept is e =
    let told : edited v store t ≡ edited v p.store (next_case v p lines) = ap (λ (s : Kept). edited v s t) kept ∙ ap (edited v p.store) is in
    ap (λ (c : Option CaseText). p.out ++ written_run (option_map_or (λ (x : CaseText). x) c (next_case v p lines)).run) (sym (ap (λ (w : World). w.case) told) ∙ e.case)
