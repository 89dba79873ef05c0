-- What is proved of batches.
use Rattle.std.specs.Prelude.{◌≡◌, ℕ, ◌+◌, ◌≤◌, Bool, true, List, [], ◌∷◌, ◌++◌, Option}
use Rattle.cse_case.specs.Line.{FileLine}
use Rattle.cse_case.specs.Runs.{given_runs}
use Rattle.cse_case.specs.Case.{CaseText}
use Rattle.cse_case.specs.Fit.{IsFit}
use Rattle.cse_image_parts.specs.declared.entries.EventCode.TheVariants.{ApplicationPreproc, ApplicationPostproc}
use Rattle.cse_verify.specs.CaseEvents.{Moment, moment}
use Rattle.cse_verify.specs.EventBound.{case_bound, run_bound}
use Rattle.cse_decks.specs.Store.{Kept, StoreFits}
use Rattle.cse_report.specs.Unended.{Begins, unended}
use Rattle.cse_verify.specs.Verified.{VerifiedProgram}
use Rattle.cse_steps.specs.State.{Told, World}
use Rattle.cse_steps.specs.Run.{Ends}
use Rattle.cse_batch_parts.specs.Events.{AllEnd, all_steps, end_of, events_of, steps_of, unedited}
use Rattle.cse_batch_parts.specs.Batch.{Batch, Progress, after_run, after_runs, batch, begun, next_case, without_case}

-- An event that ends after n steps ends in the state that a batch goes on from, and takes n steps there.
pub record IsEndOf (v : VerifiedProgram) (w : World) (m : Moment) (n : ℕ) (case : Option CaseText) (store : Kept) (told : Told) : Type 0 where
  pub ended : (end_of v w m).calls ≡ []
  pub world : (end_of v w m).world ≡ record { case = case; store = store; told = told }
  pub steps : steps_of v w m ≡ n

abbrev pub EndsAreFinal : Type 0
EndsAreFinal = (v : VerifiedProgram) (w : World) (m : Moment) (n : ℕ) (case : Option CaseText) (store : Kept) (told : Told)
    → Ends v m w.case w.store n case store told → IsEndOf v w m n case store told

-- The events of a case that fits, one after the other, all run to their ends, and take together at most the steps of a case.
pub record CaseEnds (v : VerifiedProgram) (store : Kept) (t : CaseText) : Type 0 where
  pub all_end : AllEnd v (unedited store t) (events_of v t)
  pub within : all_steps v (unedited store t) (events_of v t) ≤ case_bound v.image

abbrev pub CasesEnd : VerifiedProgram → Type 0
CasesEnd v = (store : Kept) (t : CaseText) → StoreFits v.image store → IsFit t → t.dictionary ≡ v.dictionary → CaseEnds v store t

-- The preproc of the application, and its postproc, run to their ends, and take together at most the steps of a run.
pub record ApplicationEnds (v : VerifiedProgram) (first last : Kept) : Type 0 where
  pub preproc : (end_of v (without_case first) (moment ApplicationPreproc 0 0)).calls ≡ []
  pub postproc : (end_of v (without_case last) (moment ApplicationPostproc 0 0)).calls ≡ []
  pub within : steps_of v (without_case first) (moment ApplicationPreproc 0 0) + steps_of v (without_case last) (moment ApplicationPostproc 0 0) ≤ run_bound v.image

abbrev pub ApplicationsEnd : VerifiedProgram → Type 0
ApplicationsEnd v = (first last : Kept) → StoreFits v.image first → StoreFits v.image last → ApplicationEnds v first last

-- of each run of lines of a batch the events, as CaseEnds says
abbrev pub RunsEnd : VerifiedProgram → Progress → List (List FileLine) → Type 0
RunsEnd v p [] = Unit {0}
RunsEnd v p (run ∷ runs) = CaseEnds v p.store (next_case v p run) × RunsEnd v (after_run v p run) runs

-- In a batch over any bytes all events run to their ends: those of each run of lines within the steps of a case, and those of the application within the
-- steps of a run.
pub record BatchEnds (v : VerifiedProgram) (store : Kept) (bytes : List ℕ) (ended : Bool) : Type 0 where
  pub cases : RunsEnd v (begun v store) (given_runs v.dictionary true ended bytes)
  pub application : ApplicationEnds v store (after_runs v (begun v store) (given_runs v.dictionary true ended bytes)).store

abbrev pub BatchesEnd : VerifiedProgram → Type 0
BatchesEnd v = (store : Kept) (bytes : List ℕ) (ended : Bool) → StoreFits v.image store → BatchEnds v store bytes ended

-- The texts of a batch over fewer runs are fronts of those over more: the lines that are written, and the listing without its summary.
pub record HasFront (v : VerifiedProgram) (store : Kept) (runs : List (List FileLine)) (b : Batch) : Type 0 where
  pub out : Begins (after_runs v (begun v store) runs).out b.out
  pub listing : Begins (unended v.image.lists.messages (after_runs v (begun v store) runs).reports) b.listing

abbrev pub FrontsStay : Type 0
FrontsStay = (v : VerifiedProgram) (store : Kept) (bytes : List ℕ) (ended : Bool) (runs more : List (List FileLine))
    → given_runs v.dictionary true ended bytes ≡ runs ++ more → HasFront v store runs (batch v store bytes ended)
