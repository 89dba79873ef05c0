-- A batch by what its logic means: no program, no code. Each event of a run of lines is the meaning of the part of a procedure that is of
-- it; what a batch puts together of events is as in `cse_batch`.
use Rattle.std.specs.Prelude.{ℕ, ◌+◌, Bool, true, false, if◌then◌else◌, List, [], ◌∷◌, ◌++◌, length, map, replicate, Result, Ok, Err}
use Rattle.cse_value.specs.declared.number.Num.{Num}
use Rattle.cse_image_parts.specs.Image.{ArrayLists}
use Rattle.cse_decks.specs.declared.due.Due.TheVariants.{Heading}
use Rattle.cse_decks.specs.declared.error.DeckError.{DeckError}
use Rattle.cse_decks.specs.Loading.{Reading, read_text}
use Rattle.cse_image_parts.specs.declared.entries.EventCode.{EventCode}
use Rattle.cse_image_parts.specs.declared.entries.EventCode.TheVariants.{ApplicationPreproc, ApplicationPostproc, LevelPreproc, LevelPostproc}
use Rattle.cse_value.specs.Gathering.{line}
use Rattle.cse_dict.specs.Dictionary.{DictionaryText, item_names, shape_of}
use Rattle.cse_case.specs.Line.{FileLine}
use Rattle.cse_case.specs.Runs.{given_runs}
use Rattle.cse_case.specs.Case.{CaseText, case_of, places_of, records_of, types_of}
use Rattle.cse_case.specs.Seen.{is_case}
use Rattle.cse_verify.specs.CaseEvents.{Moment, moment, records_events}
use Rattle.cse_decks.specs.Store.{Kept, first_global, first_cells}
use Rattle.cse_decks.specs.Deck.{heading, ending, blocks}
use Rattle.cse_report.specs.Listing.{listing}
use Rattle.cse_report.specs.Unended.{unended}
use Rattle.cse_report.specs.Frequency.{all_imputed, frequencies_text}
use Rattle.cse_steps.specs.State.{World}
use Rattle.cse_logic_tree.specs.Typed.{Tree}
use Rattle.cse_compile.specs.Tables.{globals_in, arrays_in, message_of}
use Rattle.cse_compile.specs.Order.{edit_order}
use Rattle.cse_meaning.specs.Meaning.{declarations, meaning}
use Rattle.cse_meaning.specs.Means.{begins}
use Rattle.cse_batch_parts.specs.declared.totals.Totals.{Totals}
use Rattle.cse_batch_parts.specs.Totals.{totals_of}
use Rattle.cse_batch_parts.specs.Events.{told_more, unedited}
use Rattle.cse_batch_parts.specs.Batch.{Batch, Progress, after_case, after_event, is_whole, without_case}

-- ---- events

-- after an event, which begins with the case and the store that the one before left
abbrev pub after_meant : DictionaryText → Tree → World → Moment → World
after_meant d t w m = let x = meaning d t m (begins w.case w.store) in record { case = x.case; store = x.store; told = told_more w.told x.told }

abbrev pub all_meant : DictionaryText → Tree → World → List Moment → World
all_meant d t w [] = w
all_meant d t w (m ∷ ms) = all_meant d t (after_meant d t w m) ms

-- the events of a case, in the edit order: that of the order file, and then that of the dictionary
abbrev pub logic_events : DictionaryText → List ℕ → (ℕ → ℕ) → List Moment
logic_events d named occurrences =
    moment LevelPreproc 0 0 ∷ records_events (shape_of d).items occurrences (edit_order (length (shape_of d).records) named) ++ moment LevelPostproc 0 0 ∷ []

abbrev pub events_meant : DictionaryText → List ℕ → CaseText → List Moment
events_meant d named c = if is_case (records_of c) (types_of c.run.lines) then logic_events d named (λ r. length (places_of c r)) else []

abbrev pub edited_meant : DictionaryText → Tree → List ℕ → Kept → CaseText → World
edited_meant d t named store c = all_meant d t (unedited store c) (events_meant d named c)

-- ---- the whole run

abbrev pub after_run_meant : DictionaryText → Tree → List ℕ → Progress → List FileLine → Progress
after_run_meant d t named p lines = let c = case_of d (p.lines + 1) lines in after_case p c (edited_meant d t named p.store c) (length lines)

abbrev pub after_runs_meant : DictionaryText → Tree → List ℕ → Progress → List (List FileLine) → Progress
after_runs_meant d t named p [] = p
after_runs_meant d t named p (run ∷ runs) = after_runs_meant d t named (after_run_meant d t named p run) runs

abbrev pub application_meant : DictionaryText → Tree → EventCode → Progress → Progress
application_meant d t code p = after_event p (after_meant d t (without_case p.store) (moment code 0 0))

abbrev pub begun_meant : DictionaryText → Tree → Kept → Progress
begun_meant d t store = application_meant d t ApplicationPreproc (record { store = store; reports = []; imputed = []; out = []; lines = 0 })

-- ---- the texts

abbrev pub whole_meant : DictionaryText → Tree → Progress → Totals → Batch
whole_meant d t p n = record {
  out = p.out;
  listing = listing (map message_of t.messages) p.reports n.cases n.lines n.unseen;
  frequencies = frequencies_text (item_names d) (all_imputed (replicate (length (shape_of d).items) []) p.imputed);
  decks = (line heading ++ blocks (arrays_in (declarations t)) p.store.arrays) ++ line ending;
  totals = n;
}

abbrev pub stopped_meant : DictionaryText → Tree → Progress → Totals → Batch
stopped_meant d t p n = record { out = p.out; listing = unended (map message_of t.messages) p.reports; frequencies = []; decks = []; totals = n }

abbrev pub told_meant : DictionaryText → Tree → Bool → Progress → Totals → Batch
told_meant d t ends p n = if ends then whole_meant d t (application_meant d t ApplicationPostproc p) n else stopped_meant d t p n

-- the batch over these bytes, after which the data ends or breaks off
unfoldable pub batch_meant : DictionaryText → Tree → List ℕ → Kept → List ℕ → Bool → Batch
batch_meant d t named store bytes ended =
    told_meant d t (is_whole d ended bytes) (after_runs_meant d t named (begun_meant d t store) (given_runs d true ended bytes)) (totals_of d (given_runs d true ended bytes))

-- ---- what a run starts with

-- without a deck file: what the declarations say
abbrev pub first_meant : Tree → Kept
first_meant t = record { globals = map first_global (globals_in (declarations t)); arrays = map first_cells (arrays_in (declarations t)) }

abbrev pub unread_by : List ArrayLists → Kept → Reading
unread_by arrays first = record { due = Heading; arrays = first.arrays; came = replicate (length arrays) false }

abbrev pub with_cells : Kept → Result (List (List Num)) DeckError → Result Kept DeckError
with_cells first (Ok arrays) = Ok (record { globals = first.globals; arrays = arrays })
with_cells first (Err e) = Err e

abbrev pub loaded_by : List ArrayLists → Kept → List ℕ → Result Kept DeckError
loaded_by arrays first text = with_cells first (read_text arrays (unread_by arrays first) 1 text)

-- with one: the same with the cells that stand there, or its first faulty line
abbrev pub loaded_meant : Tree → List ℕ → Result Kept DeckError
loaded_meant t text = loaded_by (arrays_in (declarations t)) (first_meant t) text
