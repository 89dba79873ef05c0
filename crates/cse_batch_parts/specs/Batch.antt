-- A batch: the whole run over a data file, as texts.
--
-- First the application's preproc. Then each given run of lines in order: its events, if it is a case, and then
-- its lines as they are written. Then the application's postproc. A faulty line, or data that breaks off, stops
-- it: there is no postproc and no summary, and neither frequencies nor decks are told.
use Rattle.std.specs.Prelude.{ℕ, ◌+◌, Bool, true, ◌&&◌, not, is_some, if◌then◌else◌, List, [], ◌∷◌, ◌++◌, length, map, replicate, None}
use Rattle.std.specs.Option.{option_map_or}
use Rattle.cse_value.specs.declared.number.Num.{Num}
use Rattle.cse_image_parts.specs.declared.entries.EventCode.{EventCode}
use Rattle.cse_image_parts.specs.declared.entries.EventCode.TheVariants.{ApplicationPreproc, ApplicationPostproc}
use Rattle.cse_dict.specs.Dictionary.{DictionaryText, item_names}
use Rattle.cse_case.specs.Line.{FileLine}
use Rattle.cse_case.specs.Run.{written_run}
use Rattle.cse_case.specs.Runs.{given_runs, fault_in}
use Rattle.cse_case.specs.Case.{CaseText, case_of, unseen_lines}
use Rattle.cse_verify.specs.CaseEvents.{moment}
use Rattle.cse_verify.specs.Verified.{VerifiedProgram}
use Rattle.cse_decks.specs.Store.{Kept}
use Rattle.cse_decks.specs.Deck.{deck_text}
use Rattle.cse_report.specs.Listing.{Report, BeginsRun, BeginsCase, LeavesUnseen, Gives, listing}
use Rattle.cse_report.specs.Unended.{unended}
use Rattle.cse_report.specs.Frequency.{Table, all_imputed, frequencies_text}
use Rattle.cse_steps.specs.State.{Told, World, nothing_told}
use Rattle.cse_batch_parts.specs.declared.totals.Totals.{Totals}
use Rattle.cse_batch_parts.specs.Totals.{totals_of}
use Rattle.cse_batch_parts.specs.Events.{after_moment, edited}

-- ---- what is reported

-- the messages that were given
abbrev pub reports_of : Told → List Report
reports_of told = map (λ g. Gives g.0 g.1) told.given

abbrev pub unseen_reports : CaseText → List Report
unseen_reports t = map (λ u. LeavesUnseen u.0 u.1) (unseen_lines t)

-- of a run of lines: its unseen lines, and then the messages of its events, under a heading with its ids
abbrev pub case_reports : CaseText → Told → List Report
case_reports t told = BeginsCase t.ids ∷ unseen_reports t ++ reports_of told

-- of the application's preproc or postproc
abbrev pub application_reports : Told → List Report
application_reports told = BeginsRun ∷ reports_of told

-- ---- how far a batch is

-- what is kept, what was reported and imputed, the lines that were written, and how many lines that are
pub record Progress : Type 0 where
  pub store : Kept
  pub reports : List Report
  pub imputed : List (ℕ × Num)
  pub out : List ℕ
  pub lines : ℕ

-- the lines of a case after its events
abbrev pub case_after : CaseText → World → CaseText
case_after t w = option_map_or (λ case. case) w.case t

-- after a case: its lines are written as its events leave them
abbrev pub after_case : Progress → CaseText → World → ℕ → Progress
after_case p t w n = record {
  store = w.store;
  reports = p.reports ++ case_reports t w.told;
  imputed = p.imputed ++ w.told.imputed;
  out = p.out ++ written_run (case_after t w).run;
  lines = p.lines + n;
}

-- the case of the lines that come next
abbrev pub next_case : VerifiedProgram → Progress → List FileLine → CaseText
next_case v p lines = case_of v.dictionary (p.lines + 1) lines

-- after a run of lines
unfoldable pub after_run : VerifiedProgram → Progress → List FileLine → Progress
after_run v p lines = after_case p (next_case v p lines) (edited v p.store (next_case v p lines)) (length lines)

abbrev pub after_runs : VerifiedProgram → Progress → List (List FileLine) → Progress
after_runs v p [] = p
after_runs v p (run ∷ runs) = after_runs v (after_run v p run) runs

-- before an event of the application, which has no case
abbrev pub without_case : Kept → World
without_case store = record { case = None; store = store; told = nothing_told }

abbrev pub after_event : Progress → World → Progress
after_event p w = record p { store = w.store; reports = p.reports ++ application_reports w.told; imputed = p.imputed ++ w.told.imputed }

-- after the application's preproc or postproc
unfoldable pub after_application : VerifiedProgram → EventCode → Progress → Progress
after_application v code p = after_event p (after_moment v (without_case p.store) (moment code 0 0))

-- before the first line
unfoldable pub begun : VerifiedProgram → Kept → Progress
begun v store = after_application v ApplicationPreproc (record { store = store; reports = []; imputed = []; out = []; lines = 0 })

-- ---- the texts

pub record Batch : Type 0 where
  pub out : List ℕ
  pub listing : List ℕ
  pub frequencies : List ℕ
  pub decks : List ℕ
  pub totals : Totals

-- how often values were imputed to each item
abbrev pub tables_of : VerifiedProgram → List (ℕ × Num) → List Table
tables_of v imputed = all_imputed (replicate (length v.image.lists.items) []) imputed

-- of a batch that went to the end of sound data
unfoldable pub whole : VerifiedProgram → Progress → Totals → Batch
whole v p n = record {
  out = p.out;
  listing = listing v.image.lists.messages p.reports n.cases n.lines n.unseen;
  frequencies = frequencies_text (item_names v.dictionary) (tables_of v p.imputed);
  decks = deck_text v.image p.store;
  totals = n;
}

-- of one that was stopped: what was written and listed so far
unfoldable pub stopped : VerifiedProgram → Progress → Totals → Batch
stopped v p n = record { out = p.out; listing = unended v.image.lists.messages p.reports; frequencies = []; decks = []; totals = n }

-- the data has ended, and no line of it is faulty
abbrev pub is_whole : DictionaryText → Bool → List ℕ → Bool
is_whole d ended bytes = ended && not (is_some (fault_in d true ended bytes))

-- after some runs, and the postproc where the data is whole
abbrev pub told_after : VerifiedProgram → Bool → Progress → Totals → Batch
told_after v ends p n = if ends then whole v (after_application v ApplicationPostproc p) n else stopped v p n

-- the batch over these bytes, after which the data ends or breaks off
unfoldable pub batch : VerifiedProgram → Kept → List ℕ → Bool → Batch
batch v store bytes ended =
    told_after v (is_whole v.dictionary ended bytes) (after_runs v (begun v store) (given_runs v.dictionary true ended bytes)) (totals_of v.dictionary (given_runs v.dictionary true ended bytes))
