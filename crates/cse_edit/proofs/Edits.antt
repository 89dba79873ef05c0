-- What a run of a program answers, as what is meant by the texts that it is built to.
use Rattle.std.proofs.Common.{ℕ, Bool, true, List, Option, None, Some, Result, Ok, Err, IfErr, sym, ap, ◌∙◌, subst}
use Rattle.cse_dict.specs.Dictionary.{DictionaryText}
use Rattle.cse_image.specs.Spelling.{StandFor}
use Rattle.cse_logic_tree.specs.Typed.{Tree}
use Rattle.cse_meaning.specs.Build.{IsBuilt}
use Rattle.cse_decks.specs.Store.{Kept, StoreFits}
use Rattle.cse_verify.specs.Verified.{VerifiedProgram}
use Rattle.cse_batch_parts.specs.declared.totals.Totals.{Totals}
use Rattle.cse_batch_parts.specs.declared.totals.RunFault.{RunFault}
use Rattle.cse_batch_parts.specs.Batch.{Batch, Progress}
use Rattle.cse_batch_parts.specs.RunClauses.{Failures, GivesFronts, GivesTexts, RunStops, RunsWhole, WritesRuns}
use Rattle.cse_value.specs.Device.{Appends}
use Rattle.cse_edit.specs.declared.fault.EditFault.{EditFault}
use Rattle.cse_edit.specs.declared.fault.EditFault.TheVariants as faults
use Rattle.cse_edit.specs.Logic.{batch_meant}
use Rattle.cse_edit.specs.Laws.{BatchesMean, IsMeant}
use Rattle.cse_edit.specs.Images.{BuiltImagesMean}
use Rattle.cse_edit.specs.Edit.{AreUntouched, Begins, Devices, EditStops, Edits, IsNoStartOf, IsRead, IsStartOf, RunsBatch, Starts, Stops, StopsBatch, StopsEdit, WritesRunsBy, written_meant}

-- ---- the store

starts : (v : VerifiedProgram) (t : Tree) (named : List ℕ) → IsMeant v t named → (decks : Option (List ℕ)) (store : Kept) → IsStartOf v.image decks store → Starts t decks store
starts v t named m None store is = is ∙ m.first_is
starts v t named m (Some text) store is = sym (m.loaded_is text) ∙ is

-- ---- what a run answers

whole : (v : VerifiedProgram) (t : Tree) (named : List ℕ) → IsMeant v t named → (store : Kept) → StoreFits v.image store → (on : Devices) (totals : Totals)
    → RunsWhole v store on.before on.after on.old on.new totals → RunsBatch v.dictionary (batch_meant v.dictionary t named store) on totals
whole v t named m store fits on totals r =
    let same = m.batch_is store r.bytes true fits in
    record {
      bytes = r.bytes;
      reads = r.reads;
      unfailing = r.unfailing;
      end = r.end;
      sound = r.sound;
      texts = subst (λ (b : Batch). GivesTexts on.old on.new b) same r.texts;
      totals_are = r.totals_are ∙ ap (λ (b : Batch). b.totals) same;
    }

runs_written : (v : VerifiedProgram) (t : Tree) (named : List ℕ) → IsMeant v t named → (store : Kept) → StoreFits v.image store → (bytes : List ℕ) (ended : Bool) (old new : List ℕ)
    → WritesRuns v store bytes ended old new → WritesRunsBy v.dictionary (written_meant v.dictionary t named store) bytes ended old new
runs_written v t named m store fits bytes ended old new w = record {
  runs = w.runs;
  more = w.more;
  given_are = w.given_are;
  appends = subst (λ (p : Progress). Appends old new p.out) (m.runs_are store bytes ended w.runs w.more fits w.given_are) w.appends;
}

stopped : (v : VerifiedProgram) (t : Tree) (named : List ℕ) → IsMeant v t named → (store : Kept) → StoreFits v.image store → (on : Devices) (failed : Failures) (fault : RunFault)
    → RunStops v store on.before on.after on.old on.new failed fault
    → StopsBatch v.dictionary (batch_meant v.dictionary t named store) (written_meant v.dictionary t named store) on failed fault
stopped v t named m store fits on failed fault r =
    let same = m.batch_is store r.bytes r.ended fits in
    record {
      bytes = r.bytes;
      ended = r.ended;
      reads = r.reads;
      end = r.end;
      fronts = subst (λ (b : Batch). GivesFronts on.old on.new b) same r.fronts;
      faulty = r.faulty;
      needed = r.needed;
      out_whole = λ low ok. subst (λ (b : Batch). Appends on.old.out on.new.out b.out) same (r.out_whole low ok);
      listing_whole = λ low ok. subst (λ (b : Batch). Appends on.old.listing on.new.listing b.listing) same (r.listing_whole low ok);
      out_runs = λ ok. runs_written v t named m store fits r.bytes r.ended on.old.out on.new.out (r.out_runs ok);
      unfailing = r.unfailing;
      reading = r.reading;
      writing = r.writing;
      other = r.other;
      no_line = r.no_line;
    }

-- ---- of an image that was kept

pub written_is_meant : (v : VerifiedProgram) → BatchesMean v → BuiltImagesMean v
written_is_meant v law logic messages order image accepted built =
    let t = built.texts.tree in
    let named = built.texts.named in
    let m : IsMeant v t named = law logic messages order image accepted.spells built in
    record {
      whole = λ store on totals fits ran. whole v t named m store fits on totals ran;
      stops = λ store on failed fault fits ran. stopped v t named m store fits on failed fault ran;
      first_is = m.first_is;
      loaded_is = m.loaded_is;
    }

-- ---- of the program that the texts are built to

module _ (v : VerifiedProgram) (law : BatchesMean v) (logic messages order image : List ℕ) (stands : StandFor v.image image) (built : IsBuilt v.dictionary logic messages order image) (decks : Option (List ℕ)) where
  abbrev meant : IsMeant v built.texts.tree built.texts.named
  meant = law logic messages order image stands built

  abbrev begins : (store : Kept) → IsStartOf v.image decks store → Begins v.dictionary logic messages order decks
  begins store is = record { texts = built.texts; store = store; starts = starts v built.texts.tree built.texts.named meant decks store is }

  pub edits : (store : Kept) → IsStartOf v.image decks store → StoreFits v.image store → (on : Devices) (totals : Totals)
      → RunsWhole v store on.before on.after on.old on.new totals → Edits v.dictionary logic messages order decks on totals
  edits store is fits on totals ran = record {
    begins = begins store is;
    runs = whole v built.texts.tree built.texts.named meant store fits on totals ran;
  }

  pub stops : (store : Kept) → IsStartOf v.image decks store → StoreFits v.image store → (on : Devices) (failed : Failures) (fault : RunFault)
      → RunStops v store on.before on.after on.old on.new failed fault
      → StopsEdit v.dictionary logic messages order decks on failed fault
  stops store is fits on failed fault ran = record {
    begins = begins store is;
    stops = stopped v built.texts.tree built.texts.named meant store fits on failed fault ran;
  }

  pub no_start : (on : Devices) (failed : Failures) (fault : EditFault) → AreUntouched on → IsNoStartOf v.image decks fault
      → Stops v.dictionary logic messages order decks on failed fault
  no_start on failed fault untouched is = by decks fault is
    where
      by : (decks : Option (List ℕ)) (fault : EditFault) → IsNoStartOf v.image decks fault → Stops v.dictionary logic messages order decks on failed fault
      by (Some text) (faults.Decks e) is = (untouched, (built.texts, sym (meant.loaded_is text) ∙ is))
      by (Some text) (faults.Dictionary e) is = absurd is
      by (Some text) (faults.Logic e) is = absurd is
      by (Some text) (faults.Run e) is = absurd is
      by (Some text) faults.Memory is = untouched
      by None (faults.Decks e) is = absurd is
      by None (faults.Dictionary e) is = absurd is
      by None (faults.Logic e) is = absurd is
      by None (faults.Run e) is = absurd is
      by None faults.Memory is = untouched

-- ---- behind the text of the dictionary

pub behind : (text logic messages order : List ℕ) (decks : Option (List ℕ)) (d : DictionaryText) (on : Devices) (failed : Failures) (fault : EditFault) → IsRead text d
    → Stops d logic messages order decks on failed fault → EditStops text logic messages order decks on failed fault
behind text logic messages order decks d on failed (faults.Dictionary e) read stops = absurd stops
behind text logic messages order decks d on failed (faults.Logic e) read stops = record { dictionary = d; read = read; stops = stops }
behind text logic messages order decks d on failed (faults.Decks e) read stops = record { dictionary = d; read = read; stops = stops }
behind text logic messages order decks d on failed (faults.Run e) read stops = record { dictionary = d; read = read; stops = stops }
behind text logic messages order decks d on failed faults.Memory read stops = record { dictionary = d; read = read; stops = stops }

pub all_behind : (text logic messages order : List ℕ) (decks : Option (List ℕ)) (d : DictionaryText) (on : Devices) (failed : Failures) → IsRead text d
    → (r : Result Totals EditFault) → IfErr r (λ fault. Stops d logic messages order decks on failed fault)
    → IfErr r (λ fault. EditStops text logic messages order decks on failed fault)
all_behind text logic messages order decks d on failed read (Ok totals) stops = stops
all_behind text logic messages order decks d on failed read (Err fault) stops = behind text logic messages order decks d on failed fault read stops
