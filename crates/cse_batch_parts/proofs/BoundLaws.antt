-- In a batch all events run to their ends, within the bounds.
use Rattle.std.proofs.Common.{◌≡◌, ℕ, ◌+◌, ◌<◌, Bool, true, false, cond, List, [], ◌∷◌, length, take, Option, Some, None, refl, arith}
use Rattle.std.specs.Prelude.{is_some}
use Rattle.std.specs.Str.{bytes_eq}
use Rattle.cse_image_parts.specs.declared.entries.EventCode.TheVariants as codes
use Rattle.cse_dict.specs.Dictionary.{DictionaryText}
use Rattle.cse_case.specs.Line.{FileLine, lines_in}
use Rattle.cse_case.specs.Columns.{id_of}
use Rattle.cse_case.specs.Runs.{all_but_last, first_fault, given_runs, given_before, given_of, onto_run, runs_of}
use Rattle.cse_case.specs.Case.{CaseText, places_of, records_of, types_of}
use Rattle.cse_case.specs.Seen.{is_case}
use Rattle.cse_case.specs.Fit.{IsFit}
use Rattle.cse_case.proofs.FitLaws.{fits_read}
use Rattle.cse_verify.specs.CaseEvents.{Moment, case_events, moment}
use Rattle.cse_decks.specs.Store.{Kept, StoreFits}
use Rattle.cse_verify.specs.Verified.{VerifiedProgram}
use Rattle.cse_steps.specs.State.{World}
use Rattle.cse_steps.specs.Fits.{FitsWorld, occurrences_in}
use Rattle.cse_steps.specs.Laws.{CaseKeepsToBound, EventsEnd}
use Rattle.cse_batch_parts.specs.Events.{after_moment, after_moments, edited, end_of, unedited}
use Rattle.cse_batch_parts.specs.Batch.{Progress, after_application, after_run, after_runs, begun, next_case, without_case}
use Rattle.cse_batch_parts.specs.Laws.{BatchesEnd, RunsEnd}
use Rattle.cse_batch_parts.proofs.EndLaws.{AllThere, applications_end, case_there, cases_end, ends_well, fits_application, fits_first_world, fits_moment, fits_then, fits_told}

-- ---- what is kept fits after each event

fits_after : (v : VerifiedProgram) → EventsEnd v → (case : Option CaseText) → is_some case ≡ true → (w : World) (ms : List Moment) → FitsWorld v case w → AllThere v.image (occurrences_in case) ms → FitsWorld v case (after_moments v w ms)
fits_after v law case some w [] f there = f
fits_after v law case some w (m ∷ ms) f there =
    let e = ends_well v law w m (fits_moment v case w m some f there.0) in
    fits_after v law case some (after_moment v w m) ms (fits_told v case w m (fits_then v case w (end_of v w m).world f e.fits)) there.1

store_after_case : (v : VerifiedProgram) → EventsEnd v → (store : Kept) (t : CaseText) → StoreFits v.image store → IsFit t → t.dictionary ≡ v.dictionary → StoreFits v.image (edited v store t).store
unfolding edited
store_after_case v law store t kept fit same = by (is_case (records_of t) (types_of t.run.lines))
  where
    fits : FitsWorld v (Some t) (unedited store t)
    fits = fits_first_world v (Some t) store fit same kept (unedited store t) refl refl

    by : (b : Bool) → StoreFits v.image (after_moments v (unedited store t) (cond b (case_events v.image (λ r. length (places_of t r))) [])).store
    by true = (fits_after v law (Some t) refl (unedited store t) (case_events v.image (occurrences_in (Some t))) fits (case_there v.image (occurrences_in (Some t)))).store
    by false = kept

pub store_after_run : (v : VerifiedProgram) → EventsEnd v → (p : Progress) (run : List FileLine) → 0 < length run → StoreFits v.image p.store → StoreFits v.image (after_run v p run).store
unfolding after_run
store_after_run v law p run some kept = store_after_case v law p.store (next_case v p run) kept (fits_read v.dictionary (next_case v p run).ids (p.lines + 1) run some) refl

pub store_begun : (v : VerifiedProgram) → EventsEnd v → (store : Kept) → StoreFits v.image store → StoreFits v.image (begun v store).store
unfolding begun after_application
store_begun v law store kept = (ends_well v law (without_case store) (moment codes.ApplicationPreproc 0 0) (fits_application v codes.ApplicationPreproc store refl tt kept)).fits.store

-- ---- each given run has a line

abbrev pub AllSome : List (List FileLine) → Type 0
AllSome [] = Unit {0}
AllSome (run ∷ runs) = (0 < length run) × AllSome runs

some_onto : (d : DictionaryText) (line : FileLine) (runs : List (List FileLine)) → AllSome runs → AllSome (onto_run d line runs)
some_onto d line [] some = (omega arith, tt)
some_onto d line ([] ∷ runs) some = (omega arith, some.1)
some_onto d line ((next ∷ run) ∷ runs) some = by (bytes_eq (id_of d line) (id_of d next))
  where
    by : (b : Bool) → AllSome (cond b ((line ∷ next ∷ run) ∷ runs) ((line ∷ []) ∷ (next ∷ run) ∷ runs))
    by true = (omega arith, some.1)
    by false = (omega arith, some)

some_in : (d : DictionaryText) (lines : List FileLine) → AllSome (runs_of d lines)
some_in d [] = tt
some_in d (line ∷ lines) = some_onto d line (runs_of d lines) (some_in d lines)

some_but_last : (runs : List (List FileLine)) → AllSome runs → AllSome (all_but_last runs)
some_but_last [] some = tt
some_but_last (run ∷ []) some = tt
some_but_last (run ∷ next ∷ runs) some = (some.0, some_but_last (next ∷ runs) some.1)

some_before : (d : DictionaryText) (fault : Option (ℕ × ℕ)) (ended : Bool) (lines : List FileLine) → AllSome (given_before d fault ended lines)
some_before d (Some fault) ended lines = some_but_last (runs_of d (take (fault.0) lines)) (some_in d (take (fault.0) lines))
some_before d None true lines = some_in d lines
some_before d None false lines = some_but_last (runs_of d lines) (some_in d lines)

pub some_given : (d : DictionaryText) (ended : Bool) (lines : List FileLine) → AllSome (given_of d ended lines)
unfolding given_of
some_given d ended lines = some_before d (first_fault d [] 0 lines) ended lines

-- ---- the whole batch

runs_end : (v : VerifiedProgram) → EventsEnd v → CaseKeepsToBound v → (p : Progress) (runs : List (List FileLine)) → AllSome runs → StoreFits v.image p.store → RunsEnd v p runs × StoreFits v.image (after_runs v p runs).store
runs_end v law keeps p [] some kept = (tt, kept)
runs_end v law keeps p (run ∷ runs) some kept =
    let t = next_case v p run in
    let here = cases_end v law keeps p.store t kept (fits_read v.dictionary t.ids (p.lines + 1) run some.0) refl in
    let later = runs_end v law keeps (after_run v p run) runs some.1 (store_after_run v law p run some.0 kept) in
    ((here, later.0), later.1)

pub batches_end : (v : VerifiedProgram) → EventsEnd v → CaseKeepsToBound v → BatchesEnd v
batches_end v law keeps store bytes ended kept =
    let runs = given_runs v.dictionary true ended bytes in
    let all = runs_end v law keeps (begun v store) runs (some_given v.dictionary ended (lines_in true ended bytes)) (store_begun v law store kept) in
    record { cases = all.0; application = applications_end v law store (after_runs v (begun v store) runs).store kept all.1 }
