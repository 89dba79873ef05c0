-- What a batch writes in place of the runs that it reads.
use Rattle.std.proofs.Common.{◌≡◌, ℕ, zero, suc, ◌+◌, Bool, true, false, List, [], ◌∷◌, ◌++◌, length, get_or, map, Option, Some, None, refl, sym, ap, ◌∙◌, subst, arith, append_assoc, append-nil, inl, inr}
use Rattle.std.specs.Prelude.{option_map, slice_get}
use Rattle.std.specs.List.{flat_map}
use Rattle.std.specs.Option.{option_map_or}
use Rattle.std.proofs.lemmas.Bool.{false≢true}
use Rattle.std.proofs.lemmas.List.{length-map}
use Rattle.std.proofs.lemmas.List.Folds.{flat_map-map}
use Rattle.std.proofs.lemmas.Option.{get_or_from_slice_get, slice_get-map}
use Rattle.cse_lemmas.proofs.Lists.{get_or-map_default}
use Rattle.cse_image_parts.specs.declared.entries.EventCode.TheVariants.{ApplicationPreproc}
use Rattle.cse_dict.specs.Dictionary.{DictionaryText}
use Rattle.cse_case.specs.declared.line.Ending.{Ending}
use Rattle.cse_case.specs.Line.{FileLine}
use Rattle.cse_case.specs.Columns.{LineText, line_text, no_line}
use Rattle.cse_case.specs.NamedColumns.{field_at, ids_of, type_span}
use Rattle.cse_case.specs.Run.{begins_marked, line_at, run_text, written_run}
use Rattle.cse_case.specs.Runs.{AreSound, fault_in, given_runs}
use Rattle.cse_case.specs.Gathering.{StandsFrom, bytes_of}
use Rattle.cse_case.specs.Written.{mark_bytes, written_line}
use Rattle.cse_case.specs.Case.{CaseText, case_of}
use Rattle.cse_case.specs.Fit.{IsFit}
use Rattle.cse_case.proofs.FitLaws.{fits_read}
use Rattle.cse_verify.specs.CaseEvents.{event_bound, moment}
use Rattle.cse_decks.specs.Store.{Kept, StoreFits}
use Rattle.cse_verify.specs.Verified.{VerifiedProgram}
use Rattle.cse_steps.specs.State.{State}
use Rattle.cse_steps.specs.Run.{first}
use Rattle.cse_steps.specs.Columns.{LinesStay}
use Rattle.cse_batch_parts.specs.Events.{edited}
use Rattle.cse_batch_parts.specs.Batch.{Progress, after_application, after_run, after_runs, batch, begun, is_whole, next_case, stopped, told_after, whole}
use Rattle.cse_batch_parts.specs.Totals.{totals_of}
use Rattle.cse_batch_parts.specs.Untouched.{ChecksChangeNothing, IsTouched, LineStays, OnlyChecks, RunStays, RunsStay, UntouchedColumnsStay}
use Rattle.cse_batch_parts.proofs.EndLaws.{fits_application}
use Rattle.cse_batch_parts.proofs.EventLaws.{ended_is_final}
use Rattle.cse_batch_parts.proofs.UntouchedEvents.{IsEdited, StepLaws, is_edited}
use Rattle.cse_batch_parts.proofs.UntouchedGiven.{AreGood, all_given, given_are_good}
use Rattle.cse_batch_parts.proofs.UntouchedLines.{IsLeft, as_many_written, line_stays, lines_written, sound_at, written_as_read, written_at, written_together}
use Rattle.cse_batch_parts.proofs.RunLaws.{begun_out}

-- ---- one run

module _ (d : DictionaryText) (number : ℕ) (lines : List FileLine) (Touched : ℕ → ℕ → Type 0) (c : CaseText) (stays : LinesStay Touched (case_of d number lines) c) where
  as_many : length c.run.lines ≡ length lines
  as_many = stays.same.lines ∙ length-map lines (line_text d)

  -- the line at a place
  module _ (place : ℕ) (read : FileLine) (is : slice_get lines place ≡ Some read) where
    was : line_at (run_text d number lines) place ≡ line_text d read
    was = get_or_from_slice_get (map (line_text d) lines) place (line_text d read) no_line (slice_get-map (line_text d) lines place ∙ ap (option_map (line_text d)) is)

    left : IsLeft d (Touched place) read (line_at c.run place)
    left = record {
      len =
          sym (get_or-map_default (λ (l : LineText). l.len) c.run.lines place no_line)
          ∙ (ap (λ (ls : List ℕ). get_or ls place 0) stays.same.lens ∙ (get_or-map_default (λ (l : LineText). l.len) (map (line_text d) lines) place no_line ∙ ap (λ (l : LineText). l.len) was));
      ending =
          sym (get_or-map_default (λ (l : LineText). l.ending) c.run.lines place no_line)
          ∙ (ap (λ (ls : List Ending). get_or ls place no_line.ending) stays.same.endings ∙ (get_or-map_default (λ (l : LineText). l.ending) (map (line_text d) lines) place no_line ∙ ap (λ (l : LineText). l.ending) was));
      width = stays.widths place ∙ ap (λ (l : LineText). length l.columns) was;
      stays = λ column. elim (stays.columns place column) [ inl e ↦ inl (e ∙ ap (λ (l : LineText). get_or l.columns column 32) was) | inr t ↦ inr t ];
      ids = stays.ids_and_types.ids place ∙ ap (λ (l : LineText). ids_of d l.columns) was;
      record_type = stays.ids_and_types.types place ∙ ap (λ (l : LineText). field_at (type_span d) l.columns) was;
    }

  marked : c.run.marked ≡ begins_marked lines
  marked = stays.same.marked

  -- its text
  text_is : (front : Bool) → StandsFrom front lines → written_run c.run ≡ flat_map (λ l. l) (lines_written lines c.run.lines)
  text_is front stands = ap (λ m. mark_bytes m ++ flat_map written_line c.run.lines) marked ∙ sym (written_together front lines c.run.lines as_many stands)

run_stays : (v : VerifiedProgram) (store : Kept) (number : ℕ) (lines : List FileLine) → AreSound lines → (e : IsEdited v store (case_of v.dictionary number lines)) → RunStays v store number lines (lines_written lines e.case.run.lines)
run_stays v store number lines sound e =
    let d = v.dictionary in
    let t = case_of d number lines in
    let T = IsTouched v store t in
    let each : (place : ℕ) (read : FileLine) (line : List ℕ) → slice_get lines place ≡ Some read → slice_get (lines_written lines e.case.run.lines) place ≡ Some line → LineStays d (T place) read line =
    λ place read line is at.
    line_stays d (T place) read (line_at e.case.run place) line (sound_at lines place read sound is) (left d number lines T e.case e.lines place read is) (written_at lines e.case.run.lines place read line is at) in
    record {
      as_many = as_many_written lines e.case.run.lines (as_many d number lines T e.case e.lines);
      each = each;
      unseen = λ place read line is at u. (each place read line is at).untouched (λ column w. e.unseen place column u w);
      no_case = λ none. ap (λ (c : CaseText). lines_written lines c.run.lines) (e.no_case none) ∙ written_as_read d lines sound;
    }

-- ---- runs

run_out : (v : VerifiedProgram) (p : Progress) (run : List FileLine) (c : CaseText) → (edited v p.store (next_case v p run)).case ≡ Some c → (after_run v p run).out ≡ p.out ++ written_run c.run
unfolding after_run
run_out v p run c e = ap (λ (o : Option CaseText). p.out ++ written_run (option_map_or (λ x. x) o (next_case v p run)).run) e

run_store : (v : VerifiedProgram) (p : Progress) (run : List FileLine) → (after_run v p run).store ≡ (edited v p.store (next_case v p run)).store
unfolding after_run
run_store v p run = refl

-- what is written of runs from where a batch is
record Writes (v : VerifiedProgram) (p : Progress) (runs : List (List FileLine)) : Type 0 where
  written : List (List (List ℕ))
  out : (after_runs v p runs).out ≡ p.out ++ flat_map (flat_map (λ line. line)) written
  stays : RunsStay v p runs written

module _ (v : VerifiedProgram) (laws : StepLaws v) where
  writes : (front : Bool) (p : Progress) (runs : List (List FileLine)) → AreGood front runs → StoreFits v.image p.store → Writes v p runs
  writes front p [] good fits = record { written = []; out = sym (append-nil p.out); stays = tt }
  writes front p (run ∷ runs) good fits =
      let d = v.dictionary in
      let t = next_case v p run in
      let fit : IsFit t = fits_read d t.ids (p.lines + 1) run good.0 in
      let e = is_edited v laws t p.store (record { fits = fit; dictionary = refl; store_fits = fits }) in
      let text = text_is d (p.lines + 1) run (IsTouched v p.store t) e.case e.lines front good.2 in
      let rest = writes false (after_run v p run) runs good.3 (subst (StoreFits v.image) (sym (run_store v p run)) e.store_fits) in
      let lines = lines_written run e.case.run.lines in
      let later = flat_map (flat_map (λ line. line)) rest.written in
      let here : (after_run v p run).out ≡ p.out ++ flat_map (λ line. line) lines = run_out v p run e.case e.is ∙ ap (λ (l : List ℕ). p.out ++ l) text in
      record {
        written = lines ∷ rest.written;
        out = rest.out ∙ (ap (λ (l : List ℕ). l ++ later) here ∙ append_assoc p.out (flat_map (λ line. line) lines) later);
        stays = (run_stays v p.store (p.lines + 1) run good.1 e, rest.stays);
      }

  -- the store fits after the application's preproc
  begun_fits : (store : Kept) → StoreFits v.image store → StoreFits v.image (begun v store).store
  unfolding begun after_application
  begun_fits store fits =
      let m = moment ApplicationPreproc 0 0 in
      let e = laws.events_end m None store (fits_application v ApplicationPreproc store refl tt fits) in
      let good = e.each e.steps e.state e.runs in
      let is = ended_is_final v e.steps (event_bound v.image m.event) (first v m None store) e.state e.runs e.ended e.within in
      subst (λ (s : State). StoreFits v.image s.world.store) (sym is) good.fits.world.store

-- ---- the batch

out_is : (v : VerifiedProgram) (store : Kept) (bytes : List ℕ) (ended : Bool) → (batch v store bytes ended).out ≡ (after_runs v (begun v store) (given_runs v.dictionary true ended bytes)).out
unfolding batch whole stopped after_application
out_is v store bytes ended = by_end (is_whole v.dictionary ended bytes)
  where
    by_end : (ends : Bool) → (told_after v ends (after_runs v (begun v store) (given_runs v.dictionary true ended bytes)) (totals_of v.dictionary (given_runs v.dictionary true ended bytes))).out
        ≡ (after_runs v (begun v store) (given_runs v.dictionary true ended bytes)).out
    by_end true = refl
    by_end false = refl

pub untouched_columns_stay : (v : VerifiedProgram) → StepLaws v → UntouchedColumnsStay v
untouched_columns_stay v laws store bytes ended fits =
    let runs = given_runs v.dictionary true ended bytes in
    let good = given_are_good v.dictionary ended bytes in
    let w = writes v laws (good.0) (begun v store) runs (good.1) (begun_fits v laws store fits) in
    record {
      written = w.written;
      out = out_is v store bytes ended ∙ (w.out ∙ ap (λ (l : List ℕ). l ++ flat_map (flat_map (λ line. line)) w.written) (begun_out v store));
      runs = w.stays;
      all = λ has_ended sound. all_read has_ended sound;
    }
  where
    all_read : ended ≡ true → fault_in v.dictionary true ended bytes ≡ None → flat_map bytes_of (given_runs v.dictionary true ended bytes) ≡ bytes
    all_read e sound =
        ap (λ b. flat_map bytes_of (given_runs v.dictionary true b bytes)) e ∙ all_given v.dictionary bytes (ap (λ b. fault_in v.dictionary true b bytes) (sym e) ∙ sound)

-- ---- checks alone

-- lines that are all written as they were read
all_same : (reads : List FileLine) (written : List (List ℕ)) → length written ≡ length reads
    → ((place : ℕ) (read : FileLine) (line : List ℕ) → slice_get reads place ≡ Some read → slice_get written place ≡ Some line → line ≡ read.1) → written ≡ map (λ read. read.1) reads
all_same [] [] e f = refl
all_same [] (line ∷ written) e f = absurd (omega arith)
all_same (read ∷ reads) [] e f = absurd (omega arith)
all_same (read ∷ reads) (line ∷ written) e f = ap (λ l. l ∷ written) (f zero read line refl refl) ∙ ap (λ l. read.1 ∷ l) (all_same reads written (omega arith) (λ place. f (suc place)))

-- no step writes a column
none_written : (v : VerifiedProgram) → OnlyChecks v → (store : Kept) (t : CaseText) (place column : ℕ) → IsTouched v store t place column → ⊥
none_written v checks store t place column w =
    let x = w.written.writes in
    false≢true (sym (checks x.call.routine x.call.place x.instr x.next) ∙ x.writes)

module _ (v : VerifiedProgram) (checks : OnlyChecks v) where
  run_same : (store : Kept) (number : ℕ) (lines : List FileLine) (written : List (List ℕ)) → RunStays v store number lines written → flat_map (λ line. line) written ≡ bytes_of lines
  run_same store number lines written s =
      ap (flat_map (λ line. line)) (all_same lines written s.as_many (λ place read line is at. (s.each place read line is at).untouched (λ column w. none_written v checks store (case_of v.dictionary number lines) place column w)))
      ∙ flat_map-map (λ (l : List ℕ). l) (λ (read : FileLine). read.1) lines

  runs_same : (p : Progress) (runs : List (List FileLine)) (written : List (List (List ℕ))) → RunsStay v p runs written → flat_map (flat_map (λ line. line)) written ≡ flat_map bytes_of runs
  runs_same p [] [] s = refl
  runs_same p [] (lines ∷ written) s = absurd s
  runs_same p (run ∷ runs) [] s = absurd s
  runs_same p (run ∷ runs) (lines ∷ written) s =
      ap (λ l. l ++ flat_map (flat_map (λ line. line)) written) (run_same p.store (p.lines + 1) run lines s.0) ∙ ap (λ l. bytes_of run ++ l) (runs_same (after_run v p run) runs written s.1)

pub checks_change_nothing : (v : VerifiedProgram) → UntouchedColumnsStay v → ChecksChangeNothing v
checks_change_nothing v law store bytes checks fits sound =
    let o = law store bytes true fits in
    o.out ∙ (runs_same v checks (begun v store) (given_runs v.dictionary true true bytes) o.written o.runs ∙ o.all refl sound)
