-- A batch of a program that was built is what the logic means.
use Rattle.std.proofs.Common.{◌≡◌, ℕ, ◌+◌, ◌<◌, Bool, true, false, cond, List, [], ◌∷◌, ◌++◌, length, map, replicate, Option, Some, None, Result, Ok, Err, refl, sym, ap, ◌∙◌, subst, arith}
use Rattle.std.specs.Prelude.{is_some}
use Rattle.cse_value.specs.declared.number.Num.{Num}
use Rattle.cse_value.specs.declared.shape.ItemShape.{ItemShape}
use Rattle.cse_value.specs.Shape.{ShapeLists}
use Rattle.cse_image_parts.specs.declared.entries.EventCode.{EventCode}
use Rattle.cse_image_parts.specs.declared.entries.EventCode.TheVariants as codes
use Rattle.cse_image_parts.specs.Image.{Image, MessageLists, ArrayLists}
use Rattle.cse_value.specs.Gathering.{line}
use Rattle.cse_dict.specs.Dictionary.{DictionaryText, item_names, shape_of}
use Rattle.cse_dict.specs.Sound.{IsSound}
use Rattle.cse_case.specs.Line.{FileLine, lines_in}
use Rattle.cse_case.specs.Runs.{given_runs}
use Rattle.cse_case.specs.Case.{CaseText, case_of, places_of, records_of, types_of}
use Rattle.cse_case.specs.Seen.{is_case}
use Rattle.cse_case.specs.Fit.{IsFit}
use Rattle.cse_case.proofs.FitLaws.{fits_read}
use Rattle.cse_verify.specs.CaseEvents.{Moment, moment, case_events, records_events}
use Rattle.cse_decks.specs.Store.{Kept, StoreFits, first_kept, first_global, first_cells}
use Rattle.cse_decks.specs.declared.error.DeckError.{DeckError}
use Rattle.cse_decks.specs.Loading.{loaded, read_text, unread, with_arrays}
use Rattle.cse_decks.specs.Deck.{heading, ending, blocks, deck_text}
use Rattle.cse_report.specs.Listing.{listing}
use Rattle.cse_report.specs.Unended.{unended}
use Rattle.cse_report.specs.Frequency.{all_imputed, frequencies_text}
use Rattle.cse_verify.specs.Verified.{VerifiedProgram, MayRun}
use Rattle.cse_steps.specs.State.{World}
use Rattle.cse_steps.specs.Fits.{FitsFirst, FitsWorld, IsThere, is_of_run, occurrences_in}
use Rattle.cse_steps.specs.Laws.{EventsEnd}
use Rattle.cse_logic_tree.specs.Typed.{Tree}
use Rattle.cse_compile.specs.Tables.{globals_in, arrays_in, message_of}
use Rattle.cse_compile.specs.Order.{edit_order}
use Rattle.cse_compile.specs.Program.{IsProgramOf}
use Rattle.cse_meaning.specs.Meaning.{declarations, meaning}
use Rattle.cse_meaning.specs.Means.{IsEventOf, Means, begins}
use Rattle.cse_meaning.specs.Meant.{ProgramsMean}
use Rattle.cse_image.specs.Spelling.{StandFor}
use Rattle.cse_meaning.specs.Build.{IsBuilt}
use Rattle.cse_meaning.proofs.Meant.{NoneBegins, built_means, one_program}
use Rattle.cse_batch_parts.specs.declared.totals.Totals.{Totals}
use Rattle.cse_batch_parts.specs.Totals.{totals_of}
use Rattle.cse_batch_parts.specs.Events.{after_moment, after_moments, edited, end_of, events_of, told_more, unedited}
use Rattle.cse_batch_parts.specs.Batch.{Batch, Progress, after_application, after_case, after_event, after_run, after_runs, batch, begun, is_whole, next_case, stopped, tables_of, told_after, whole, without_case}
use Rattle.cse_batch_parts.proofs.EndLaws.{AllThere, case_there, ends_well, fits_application, fits_first_world, fits_moment, fits_then, fits_told}
use Rattle.cse_batch_parts.proofs.EventLaws.{ends_are_final}
use Rattle.cse_edit.specs.Logic.{after_meant, all_meant, logic_events, events_meant, edited_meant, after_run_meant, after_runs_meant, application_meant, begun_meant, whole_meant, stopped_meant, told_meant, batch_meant, first_meant, loaded_by, loaded_meant, with_cells}
use Rattle.cse_edit.specs.Laws.{BatchesMean, IsMeant}
use Rattle.cse_edit.proofs.Events.{AllOf, of_case}
use Rattle.cse_batch_parts.proofs.BoundLaws.{AllSome, some_given, store_after_run, store_begun}
use Rattle.cse_edit.proofs.Runs.{some_front}

as_given : (x : Image) (r : Result (List (List Num)) DeckError) → with_arrays x r ≡ with_cells (first_kept x) r
as_given x (Ok arrays) = refl
as_given x (Err e) = refl

module _ (v : VerifiedProgram) (t : Tree) (named : List ℕ) (means : Means v t) (law : EventsEnd v) (may_run : MayRun v) (program : IsProgramOf v.dictionary named t v.image) where
  abbrev d : DictionaryText
  d = v.dictionary

  -- an event leaves what it means
  one : (w : World) (m : Moment) → IsEventOf d m.event.code m.event.index → FitsFirst v m w.case w.store → after_moment v w m ≡ after_meant d t w m
  one w m of fit =
      let r = means.runs m w.case w.store of fit in
      let x = meaning d t m (begins w.case w.store) in
      let e = ends_are_final v w m r.0 x.case x.store x.told r.1 in
      ap (λ (y : World). record { case = y.case; store = y.store; told = told_more w.told y.told }) e.world

  -- and so do events one after the other
  all : (case : Option CaseText) → is_some case ≡ true → (w : World) (ms : List Moment) → FitsWorld v case w → AllThere v.image (occurrences_in case) ms → AllOf d ms → after_moments v w ms ≡ all_meant d t w ms
  all case some w [] f there of = refl
  all case some w (m ∷ ms) f there of =
      let first = fits_moment v case w m some f there.0 in
      let e = ends_well v law w m first in
      let next = all case some (after_moment v w m) ms (fits_told v case w m (fits_then v case w (end_of v w m).world f e.fits)) there.1 of.1 in
      next ∙ ap (λ u. all_meant d t u ms) (one w m of.0 first)

  -- the events of a case are those of the dictionary in the edit order
  items_are : v.image.lists.items ≡ (shape_of d).items
  items_are = ap (λ (s : ShapeLists). s.items) (sym program.shape)

  events_are : (n : ℕ → ℕ) → case_events v.image n ≡ logic_events d named n
  events_are n =
      ap (λ (items : List ItemShape). moment codes.LevelPreproc 0 0 ∷ records_events items n v.image.lists.order ++ moment codes.LevelPostproc 0 0 ∷ []) items_are
      ∙ ap (λ (order : List ℕ). moment codes.LevelPreproc 0 0 ∷ records_events (shape_of d).items n order ++ moment codes.LevelPostproc 0 0 ∷ []) program.order

  case_is : (store : Kept) (c : CaseText) → StoreFits v.image store → IsFit c → c.dictionary ≡ d → edited v store c ≡ edited_meant d t named store c
  unfolding edited
  case_is store c kept fit same = by (is_case (records_of c) (types_of c.run.lines))
    where
      fits : FitsWorld v (Some c) (unedited store c)
      fits = fits_first_world v (Some c) store fit same kept (unedited store c) refl refl

      by : (b : Bool) → after_moments v (unedited store c) (cond b (case_events v.image (λ r. length (places_of c r))) []) ≡ all_meant d t (unedited store c) (cond b (logic_events d named (λ r. length (places_of c r))) [])
      by true =
          all (Some c) refl (unedited store c) (case_events v.image (occurrences_in (Some c))) fits (case_there v.image (occurrences_in (Some c))) (of_case d v.image may_run.typed (occurrences_in (Some c)))
          ∙ ap (λ ms. all_meant d t (unedited store c) ms) (events_are (occurrences_in (Some c)))
      by false = refl

  run_is : (p : Progress) (run : List FileLine) → 0 < length run → StoreFits v.image p.store → after_run v p run ≡ after_run_meant d t named p run
  unfolding after_run
  run_is p run some kept =
      let c = next_case v p run in
      ap (λ w. after_case p c w (length run)) (case_is p.store c kept (fits_read v.dictionary c.ids (p.lines + 1) run some) refl)

  runs_are : (p : Progress) (runs : List (List FileLine)) → AllSome runs → StoreFits v.image p.store → after_runs v p runs ≡ after_runs_meant d t named p runs
  runs_are p [] some kept = refl
  runs_are p (run ∷ runs) some kept =
      runs_are (after_run v p run) runs some.1 (store_after_run v law p run some.0 kept) ∙ ap (λ q. after_runs_meant d t named q runs) (run_is p run some.0 kept)

  store_after_runs : (p : Progress) (runs : List (List FileLine)) → AllSome runs → StoreFits v.image p.store → StoreFits v.image (after_runs v p runs).store
  store_after_runs p [] some kept = kept
  store_after_runs p (run ∷ runs) some kept = store_after_runs (after_run v p run) runs some.1 (store_after_run v law p run some.0 kept)

  preproc_is : (p : Progress) → StoreFits v.image p.store → after_application v codes.ApplicationPreproc p ≡ application_meant d t codes.ApplicationPreproc p
  unfolding after_application
  preproc_is p kept = ap (after_event p) (one (without_case p.store) (moment codes.ApplicationPreproc 0 0) refl (fits_application v codes.ApplicationPreproc p.store refl tt kept))

  postproc_is : (p : Progress) → StoreFits v.image p.store → after_application v codes.ApplicationPostproc p ≡ application_meant d t codes.ApplicationPostproc p
  unfolding after_application
  postproc_is p kept = ap (after_event p) (one (without_case p.store) (moment codes.ApplicationPostproc 0 0) refl (fits_application v codes.ApplicationPostproc p.store refl tt kept))

  begun_is : (store : Kept) → StoreFits v.image store → begun v store ≡ begun_meant d t store
  unfolding begun
  begun_is store kept = preproc_is (record { store = store; reports = []; imputed = []; out = []; lines = 0 }) kept

  -- ---- the texts

  abbrev texts : Progress → Totals → List MessageLists → ℕ → List ArrayLists → Batch
  texts p n messages items arrays = record {
    out = p.out;
    listing = listing messages p.reports n.cases n.lines n.unseen;
    frequencies = frequencies_text (item_names d) (all_imputed (replicate items []) p.imputed);
    decks = (line heading ++ blocks arrays p.store.arrays) ++ line ending;
    totals = n;
  }

  whole_is : (p : Progress) (n : Totals) → whole v p n ≡ whole_meant d t p n
  unfolding whole deck_text
  whole_is p n =
      ap (λ messages. texts p n messages (length v.image.lists.items) v.image.lists.arrays) program.messages
      ∙ (ap (λ (items : List ItemShape). texts p n (map message_of t.messages) (length items) v.image.lists.arrays) items_are
      ∙ ap (λ arrays. texts p n (map message_of t.messages) (length (shape_of d).items) arrays) program.arrays)

  stopped_is : (p : Progress) (n : Totals) → stopped v p n ≡ stopped_meant d t p n
  unfolding stopped
  stopped_is p n = ap (λ (messages : List MessageLists). record { out = p.out; listing = unended messages p.reports; frequencies = []; decks = []; totals = n }) program.messages

  told_is : (ends : Bool) (p : Progress) (n : Totals) → StoreFits v.image p.store → told_after v ends p n ≡ told_meant d t ends p n
  told_is true p n kept = whole_is (after_application v codes.ApplicationPostproc p) n ∙ ap (λ q. whole_meant d t q n) (postproc_is p kept)
  told_is false p n kept = stopped_is p n

  batch_is : (store : Kept) (bytes : List ℕ) (ended : Bool) → StoreFits v.image store → batch v store bytes ended ≡ batch_meant d t named store bytes ended
  unfolding batch batch_meant
  batch_is store bytes ended kept =
      let runs = given_runs d true ended bytes in
      let n = totals_of d runs in
      let some = some_given d ended (lines_in true ended bytes) in
      let first = store_begun v law store kept in
      told_is (is_whole d ended bytes) (after_runs v (begun v store) runs) n (store_after_runs (begun v store) runs some first)
      ∙ (ap (λ p. told_meant d t (is_whole d ended bytes) p n) (runs_are (begun v store) runs some first)
      ∙ ap (λ p. told_meant d t (is_whole d ended bytes) (after_runs_meant d t named p runs) n) (begun_is store kept))

  first_is : first_kept v.image ≡ first_meant t
  unfolding first_kept
  first_is =
      ap (λ globals. record { globals = map first_global globals; arrays = map first_cells v.image.lists.arrays }) program.globals
      ∙ ap (λ arrays. record { globals = map first_global (globals_in (declarations t)); arrays = map first_cells arrays }) program.arrays

  -- ---- fewer runs, and the cells of a deck text

  runs_given : (store : Kept) (bytes : List ℕ) (ended : Bool) (runs more : List (List FileLine)) → StoreFits v.image store → given_runs d true ended bytes ≡ runs ++ more
      → after_runs v (begun v store) runs ≡ after_runs_meant d t named (begun_meant d t store) runs
  runs_given store bytes ended runs more kept given_are =
      let some = some_front runs more (subst (λ rs. AllSome rs) given_are (some_given d ended (lines_in true ended bytes))) in
      runs_are (begun v store) runs some (store_begun v law store kept) ∙ ap (λ p. after_runs_meant d t named p runs) (begun_is store kept)

  loaded_is : (text : List ℕ) → loaded v.image text ≡ loaded_meant t text
  unfolding loaded
  loaded_is text =
      as_given v.image (read_text v.image.lists.arrays (unread v.image) 1 text)
      ∙ (ap (λ first. loaded_by v.image.lists.arrays first text) first_is
      ∙ ap (λ arrays. loaded_by arrays (first_meant t) text) program.arrays)

pub batches_mean : (v : VerifiedProgram) → ProgramsMean → EventsEnd v → NoneBegins → MayRun v → IsSound v.dictionary → BatchesMean v
batches_mean v mean law none may_run sound logic messages order image stands built =
    let same : built.program ≡ v.image = one_program v.dictionary sound mean none logic messages order image built v.image stands in
    let means : Means v built.texts.tree = built_means v.dictionary sound mean none logic messages order image built v.image stands in
    let program = subst (λ x. IsProgramOf v.dictionary built.texts.named built.texts.tree x) same built.image.compiled in
    record {
      batch_is = batch_is v built.texts.tree built.texts.named means law may_run program;
      runs_are = runs_given v built.texts.tree built.texts.named means law may_run program;
      first_is = first_is v built.texts.tree built.texts.named means law may_run program;
      loaded_is = loaded_is v built.texts.tree built.texts.named means law may_run program;
    }
