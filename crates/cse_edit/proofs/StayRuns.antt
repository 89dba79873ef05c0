-- What the meant batch writes in place of the lines that it reads.
use Rattle.std.proofs.Common.{◌≡◌, ℕ, zero, suc, ◌+◌, Bool, true, false, List, [], ◌∷◌, ◌++◌, length, get_or, map, Option, Some, None, refl, sym, ap, ◌∙◌, subst, arith, append_assoc, append-nil, inl, inr}
use Rattle.std.specs.Prelude.{slice_get, Contains}
use Rattle.std.specs.List.{flat_map}
use Rattle.std.specs.Option.{option_map, option_map_or}
use Rattle.std.proofs.lemmas.Grind.{flat_map-append}
use Rattle.std.proofs.lemmas.List.{length-map}
use Rattle.std.proofs.lemmas.Option.{get_or_from_slice_get, slice_get-map}
use Rattle.cse_lemmas.proofs.Lists.{get_or-map_default}
use Rattle.cse_dict.specs.Dictionary.{DictionaryText}
use Rattle.cse_dict.specs.Sound.{IsSound, SoundWithoutFault}
use Rattle.cse_case.specs.declared.line.Ending.{Ending}
use Rattle.cse_case.specs.Line.{FileLine}
use Rattle.cse_case.specs.Columns.{LineText, line_text, no_line}
use Rattle.cse_case.specs.NamedColumns.{field_at, ids_of, type_span}
use Rattle.cse_case.specs.Run.{line_at, run_text, written_run}
use Rattle.cse_case.specs.Runs.{AreSound as AreSoundLines, fault_in, given_runs}
use Rattle.cse_case.specs.Gathering.{StandsFrom, bytes_of}
use Rattle.cse_case.specs.Written.{mark_bytes, written_line}
use Rattle.cse_case.specs.Case.{CaseText, case_of}
use Rattle.cse_case.specs.Fit.{IsFit}
use Rattle.cse_case.proofs.FitLaws.{fits_read}
use Rattle.cse_verify.specs.CaseEvents.{Moment}
use Rattle.cse_decks.specs.Store.{Kept}
use Rattle.cse_logic_tree.specs.Typed.{Tree}
use Rattle.cse_edit.specs.Items.{items_written}
use Rattle.cse_compile.specs.Tables.{functions_in}
use Rattle.cse_steps.specs.State.{World}
use Rattle.cse_steps.specs.Columns.{LinesStay}
use Rattle.cse_steps.proofs.Columns.{case_same}
use Rattle.cse_meaning.specs.Meaning.{declarations}
use Rattle.cse_meaning.specs.Means.{begins}
use Rattle.cse_batch_parts.specs.Totals.{totals_of}
use Rattle.cse_batch_parts.specs.Events.{unedited}
use Rattle.cse_batch_parts.specs.Batch.{Progress, is_whole}
use Rattle.cse_batch_parts.specs.Untouched.{LineStays}
use Rattle.cse_batch_parts.proofs.UntouchedGiven.{AreGood, all_given, given_are_good}
use Rattle.cse_batch_parts.proofs.UntouchedLines.{IsLeft as IsLeftOf, as_many_written, line_stays, lines_written, sound_at, written_at, written_together}
use Rattle.cse_edit.specs.Logic.{after_meant, all_meant, edited_meant, events_meant, after_run_meant, after_runs_meant, begun_meant, told_meant, batch_meant}
use Rattle.cse_edit.specs.Stay.{MayChange, AllStay, lines_read, ItemsStay, NamedItemsAloneChange, ChecksChangeNothing, EditsKeepOthers}
use Rattle.cse_edit.proofs.Puts.{FunctionsPut, ProceduresPut}
use Rattle.cse_edit.proofs.Keeps.{event_keeps}
use Rattle.cse_edit.proofs.Left.{Named, Allowed, IsLeft, left_keeps}
use Rattle.cse_edit.proofs.Names.{Of, IsWritten, each_written, functions_of_source, procedures_of_source, is_listed}

-- ---- lines that are written in place of others

all_stay : (d : DictionaryText) (t : Tree) (reads : List FileLine) (written : List (List ℕ)) → length written ≡ length reads
    → ((place : ℕ) (read : FileLine) (line : List ℕ) → slice_get reads place ≡ Some read → slice_get written place ≡ Some line → LineStays d (MayChange d t read) read line) → AllStay d t reads written
all_stay d t [] [] e f = tt
all_stay d t [] (line ∷ written) e f = absurd (omega arith)
all_stay d t (read ∷ reads) [] e f = absurd (omega arith)
all_stay d t (read ∷ reads) (line ∷ written) e f = (f zero read line refl refl, all_stay d t reads written (omega arith) (λ place. f (suc place)))

both_stay : (d : DictionaryText) (t : Tree) (reads more : List FileLine) (written later : List (List ℕ)) → AllStay d t reads written → AllStay d t more later → AllStay d t (reads ++ more) (written ++ later)
both_stay d t [] more [] later a b = b
both_stay d t [] more (line ∷ written) later a b = absurd a
both_stay d t (read ∷ reads) more [] later a b = absurd a
both_stay d t (read ∷ reads) more (line ∷ written) later a b = (a.0, both_stay d t reads more written later a.1 b)

-- ---- the lines of a case

module _ (d : DictionaryText) (t : Tree) (number : ℕ) (reads : List FileLine) (Touched : ℕ → ℕ → Type 0) (c : CaseText) (stays : LinesStay Touched (case_of d number reads) c) where
  as_many : length c.run.lines ≡ length reads
  as_many = stays.same.lines ∙ length-map reads (line_text d)

  was : (place : ℕ) (read : FileLine) → slice_get reads place ≡ Some read → line_at (run_text d number reads) place ≡ line_text d read
  was place read is = get_or_from_slice_get (map (line_text d) reads) place (line_text d read) no_line (slice_get-map (line_text d) reads place ∙ ap (option_map (line_text d)) is)

  module _ (may : (place column : ℕ) (read : FileLine) → slice_get reads place ≡ Some read → Touched place column → MayChange d t read column) where
    left : (place : ℕ) (read : FileLine) → slice_get reads place ≡ Some read → IsLeftOf d (MayChange d t read) read (line_at c.run place)
    left place read is =
        let before = was place read is in
        record {
          len =
              sym (get_or-map_default (λ (l : LineText). l.len) c.run.lines place no_line)
              ∙ (ap (λ (ls : List ℕ). get_or ls place 0) stays.same.lens ∙ (get_or-map_default (λ (l : LineText). l.len) (map (line_text d) reads) place no_line ∙ ap (λ (l : LineText). l.len) before));
          ending =
              sym (get_or-map_default (λ (l : LineText). l.ending) c.run.lines place no_line)
              ∙ (ap (λ (ls : List Ending). get_or ls place no_line.ending) stays.same.endings ∙ (get_or-map_default (λ (l : LineText). l.ending) (map (line_text d) reads) place no_line ∙ ap (λ (l : LineText). l.ending) before));
          width = stays.widths place ∙ ap (λ (l : LineText). length l.columns) before;
          stays = λ column. elim (stays.columns place column) [ inl e ↦ inl (e ∙ ap (λ (l : LineText). get_or l.columns column 32) before) | inr x ↦ inr (may place column read is x) ];
          ids = stays.ids_and_types.ids place ∙ ap (λ (l : LineText). ids_of d l.columns) before;
          record_type = stays.ids_and_types.types place ∙ ap (λ (l : LineText). field_at (type_span d) l.columns) before;
        }

    lines_stay : AreSoundLines reads → AllStay d t reads (lines_written reads c.run.lines)
    lines_stay sound =
        all_stay d t reads (lines_written reads c.run.lines) (as_many_written reads c.run.lines as_many)
        (λ place read line is at. line_stays d (MayChange d t read) read (line_at c.run place) line (sound_at reads place read sound is) (left place read is) (written_at reads c.run.lines place read line is at))

  text_is : (front : Bool) → StandsFrom front reads → written_run c.run ≡ flat_map (λ l. l) (lines_written reads c.run.lines)
  text_is front stands = ap (λ m. mark_bytes m ++ flat_map written_line c.run.lines) stays.same.marked ∙ sym (written_together front reads c.run.lines as_many stands)

-- ---- the events of a case

module _ (d : DictionaryText) (t : Tree) (named : List ℕ) (sound : IsSound d) (functions : FunctionsPut (Of (IsWritten t) d) (functions_in (declarations t))) (procedures : ProceduresPut (Of (IsWritten t) d) t.procedures) where
  module _ (c : CaseText) (same : c.dictionary ≡ d) (fit : IsFit c) where
    abbrev Touched : ℕ → ℕ → Type 0
    Touched = Named d sound (IsWritten t) c same

    all_left : (w : World) (ms : List Moment) → IsLeft d sound (IsWritten t) c same w.case → IsLeft d sound (IsWritten t) c same (all_meant d t w ms).case
    all_left w [] q = q
    all_left w (m ∷ ms) q =
        all_left (after_meant d t w m) ms
        (event_keeps (Allowed d sound (IsWritten t) c same) (IsLeft d sound (IsWritten t) c same) (left_keeps d sound (IsWritten t) c same) d t m functions procedures (begins w.case w.store) q)

    record IsEdited (o : Option CaseText) : Type 0 where
      case : CaseText
      is : o ≡ Some case
      lines : LinesStay Touched c case

    edited : (store : Kept) → IsEdited (edited_meant d t named store c).case
    edited store =
        by (edited_meant d t named store c).case refl
        (all_left (unedited store c) (events_meant d named c) (record { fit = fit; lines = case_same Touched (Some c) (Some c) refl }))
      where
        by : (o : Option CaseText) → (edited_meant d t named store c).case ≡ o → IsLeft d sound (IsWritten t) c same o → IsEdited (edited_meant d t named store c).case
        by None e q = absurd q
        by (Some x) e q = record { case = x; is = e; lines = q.lines }

  -- ---- runs

  touched : (number : ℕ) (reads : List FileLine) (same : d ≡ d) (place column : ℕ) (read : FileLine) → slice_get reads place ≡ Some read → Named d sound (IsWritten t) (case_of d number reads) same place column
      → MayChange d t read column
  touched number reads same place column read is x = record {
    item = x.item;
    written = is_listed d t x.item x.there x.named;
    record_is = ap (λ (l : LineText). l.record_number) (sym (was d t number reads (λ p j. Unit {0}) (case_of d number reads) (case_same (λ p j. Unit {0}) (Some (case_of d number reads)) (Some (case_of d number reads)) refl) place read is)) ∙ x.record_is;
    covers = x.covers;
  }

  run_out : (p : Progress) (run : List FileLine) (c : CaseText) → (edited_meant d t named p.store (case_of d (p.lines + 1) run)).case ≡ Some c → (after_run_meant d t named p run).out ≡ p.out ++ written_run c.run
  run_out p run c e = ap (λ (o : Option CaseText). p.out ++ written_run (option_map_or (λ x. x) o (case_of d (p.lines + 1) run)).run) e

  record Writes (p : Progress) (runs : List (List FileLine)) : Type 0 where
    written : List (List ℕ)
    out : (after_runs_meant d t named p runs).out ≡ p.out ++ flat_map (λ line. line) written
    stays : AllStay d t (flat_map (λ run. run) runs) written

  writes : (front : Bool) (p : Progress) (runs : List (List FileLine)) → AreGood front runs → Writes p runs
  writes front p [] good = record { written = []; out = sym (append-nil p.out); stays = tt }
  writes front p (run ∷ runs) good =
      let c = case_of d (p.lines + 1) run in
      let e = edited c refl (fits_read d c.ids (p.lines + 1) run good.0) p.store in
      let lines = lines_written run e.case.run.lines in
      let rest = writes false (after_run_meant d t named p run) runs good.3 in
      let later = flat_map (λ (line : List ℕ). line) rest.written in
      let here : (after_run_meant d t named p run).out ≡ p.out ++ flat_map (λ line. line) lines =
      run_out p run e.case e.is ∙ ap (λ (l : List ℕ). p.out ++ l) (text_is d t (p.lines + 1) run (Touched c refl (fits_read d c.ids (p.lines + 1) run good.0)) e.case e.lines front good.2) in
      record {
        written = lines ++ rest.written;
        out =
            rest.out ∙ (ap (λ (l : List ℕ). l ++ later) here
            ∙ (append_assoc p.out (flat_map (λ line. line) lines) later ∙ ap (λ (l : List ℕ). p.out ++ l) (sym (flat_map-append (λ (line : List ℕ). line) lines rest.written))));
        stays = both_stay d t run (flat_map (λ r. r) runs) lines rest.written
            (lines_stay d t (p.lines + 1) run (Touched c refl (fits_read d c.ids (p.lines + 1) run good.0)) e.case e.lines (λ place column read is x. touched (p.lines + 1) run refl place column read is x) good.1) rest.stays;
      }

  -- ---- the batch

  out_is : (store : Kept) (bytes : List ℕ) (ended : Bool) → (batch_meant d t named store bytes ended).out ≡ (after_runs_meant d t named (begun_meant d t store) (given_runs d true ended bytes)).out
  unfolding batch_meant
  out_is store bytes ended = by (is_whole d ended bytes)
    where
      by : (ends : Bool) → (told_meant d t ends (after_runs_meant d t named (begun_meant d t store) (given_runs d true ended bytes)) (totals_of d (given_runs d true ended bytes))).out
          ≡ (after_runs_meant d t named (begun_meant d t store) (given_runs d true ended bytes)).out
      by true = refl
      by false = refl

  bytes_are : (runs : List (List FileLine)) → flat_map (λ (line : FileLine). line.1) (flat_map (λ run. run) runs) ≡ flat_map bytes_of runs
  bytes_are [] = refl
  bytes_are (run ∷ runs) = flat_map-append (λ (line : FileLine). line.1) run (flat_map (λ r. r) runs) ∙ ap (λ l. bytes_of run ++ l) (bytes_are runs)

  items_stay : (store : Kept) (bytes : List ℕ) (ended : Bool) → ItemsStay d t named store bytes ended
  items_stay store bytes ended =
      let runs = given_runs d true ended bytes in
      let good = given_are_good d ended bytes in
      let w = writes good.0 (begun_meant d t store) runs good.1 in
      record {
        written = w.written;
        out = out_is store bytes ended ∙ w.out;
        lines = w.stays;
        all = λ has_ended no_fault. bytes_are runs ∙ (ap (λ b. flat_map bytes_of (given_runs d true b bytes)) has_ended ∙ all_given d bytes (ap (λ b. fault_in d true b bytes) (sym has_ended) ∙ no_fault));
      }

-- ---- the laws

pub named_items_alone_change : NamedItemsAloneChange
named_items_alone_change d logic messages order texts store bytes ended sound =
    let t = texts.tree in
    let well = texts.logic_is.typed.well in
    items_stay d t texts.named sound (functions_of_source (IsWritten t) d texts.entries t well (each_written t)) (procedures_of_source (IsWritten t) d texts.entries t well (each_written t)) store bytes ended

-- where no item is written each line is as it was
all_same : (d : DictionaryText) (t : Tree) (reads : List FileLine) (written : List (List ℕ)) → items_written d t ≡ [] → AllStay d t reads written → flat_map (λ line. line) written ≡ flat_map (λ (read : FileLine). read.1) reads
all_same d t [] [] none s = refl
all_same d t [] (line ∷ written) none s = absurd s
all_same d t (read ∷ reads) [] none s = absurd s
all_same d t (read ∷ reads) (line ∷ written) none s =
    let never : (column : ℕ) → MayChange d t read column → ⊥ = λ column x. nothing x.item (subst (λ is. Contains is x.item) none x.written) in
    ap (λ l. l ++ flat_map (λ line. line) written) (s.0.untouched never) ∙ ap (λ l. read.1 ++ l) (all_same d t reads written none s.1)
  where
    nothing : (item : ℕ) → Contains [] item → ⊥
    nothing item at = let none = at.1 in omega arith

pub checks_change_nothing : NamedItemsAloneChange → ChecksChangeNothing
checks_change_nothing law d logic messages order texts store bytes sound none no_fault =
    let s = law d logic messages order texts store bytes true sound in
    s.out ∙ (all_same d texts.tree (lines_read d bytes true) s.written none s.lines ∙ s.all refl no_fault)

pub edits_keep_others : NamedItemsAloneChange → SoundWithoutFault → EditsKeepOthers
edits_keep_others law sound text logic messages order decks on d read =
    let is_sound : IsSound d = subst (λ (d : DictionaryText). IsSound d) (sym read.is) (sound text read.sound) in
    record {
      whole = λ totals e. law d logic messages order e.begins.texts e.begins.store e.runs.bytes true is_sound;
      stopped = λ failed fault e. law d logic messages order e.begins.texts e.begins.store e.stops.bytes e.stops.ended is_sound;
    }
