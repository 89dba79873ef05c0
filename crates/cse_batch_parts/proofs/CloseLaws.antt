-- The end of a run: the postproc, and the outputs.
use Rattle.std.proofs.Common.{◌≡◌, ℕ, Bool, true, false, List, [], ◌++◌, None, Ok, Err, Result, refl, ap, sym, ◌∙◌, subst, arith, append_assoc, append-nil, inl, inr}
use Rattle.std.specs.Prelude.{MatchBool}
use Rattle.std.proofs.lemmas.Bool.{MatchBool-at_false}
use Rattle.cse_value.specs.Device.{Appends, Given}
use Rattle.cse_value.proofs.ReadLaws.{Consumes-nil}
use Rattle.cse_value.proofs.WriteLaws.{Appends-nil, Appends-trans}
use Rattle.cse_value.specs.declared.device.Failed.{Failed}
use Rattle.cse_value.specs.Writing.{AppendsFront, FailsAtErr, WritesAll}
use Rattle.cse_value.proofs.WriteLaws.{AppendsFront-after}
use Rattle.cse_image_parts.specs.declared.entries.EventCode.TheVariants.{ApplicationPostproc}
use Rattle.cse_dict.specs.Dictionary.{item_names}
use Rattle.cse_case.specs.Runs.{fault_in, given_runs}
use Rattle.cse_decks.specs.Store.{Kept}
use Rattle.cse_decks.specs.Deck.{deck_text}
use Rattle.cse_value.specs.Gathering.{Finishes, GaveUp, Gathered, Gathering, Going, Puts}
use Rattle.cse_report.specs.Held.{Held, begun as no_reports, ending, flushed}
use Rattle.cse_report.specs.Frequency.{frequencies_text}
use Rattle.cse_report.specs.Listing.{listing}
use Rattle.cse_report.specs.Unended.{Begins, unended}
use Rattle.cse_report.specs.AllReported.{all_reported}
use Rattle.cse_report.specs.declared.reports.Reports.{Reports}
use Rattle.cse_verify.specs.Verified.{VerifiedProgram}
use Rattle.cse_batch_parts.specs.declared.totals.Totals.{Totals}
use Rattle.cse_batch_parts.specs.declared.totals.RunFault.{RunFault}
use Rattle.cse_batch_parts.specs.Totals.{totals_of}
use Rattle.cse_batch_parts.specs.Batch.{Batch, Progress, after_application, after_runs, batch, begun, tables_of, whole}
use Rattle.cse_batch_parts.specs.Edits.{Keeps}
use Rattle.cse_batch_parts.specs.RunClauses.{Contents, Failures, GivesFronts, GivesTexts, HasFailure, RunStops, RunsWhole, contents, failures}
use Rattle.cse_batch_parts.specs.RunState.{CasesRan, Device, Halts, Has, Ran}
use Rattle.cse_batch_parts.proofs.BatchLaws.{batch_whole, fronts_stay}
use Rattle.cse_batch_parts.proofs.HeldLaws.{listing_held, unended_held}
use Rattle.cse_batch_parts.proofs.RunLaws.{begun_out}
use Rattle.cse_batch_parts.proofs.SoFarLaws.{all_of, front_of, gave_up}

-- ---- after the last run of lines

application_out : (v : VerifiedProgram) (p : Progress) → (after_application v ApplicationPostproc p).out ≡ p.out
unfolding after_application
application_out v p = refl

-- what the whole batch says, once all is reported
record IsWhole (v : VerifiedProgram) (p : Progress) (n : Totals) (b : Batch) : Type 0 where
  out : b.out ≡ p.out
  listing : b.listing ≡ listing v.image.lists.messages p.reports n.cases n.lines n.unseen
  frequencies : b.frequencies ≡ frequencies_text (item_names v.dictionary) (tables_of v p.imputed)
  decks : b.decks ≡ deck_text v.image p.store
  totals : b.totals ≡ n

is_whole : (v : VerifiedProgram) (p : Progress) (n : Totals) (b : Batch) → b ≡ whole v p n → IsWhole v p n b
unfolding whole
is_whole v p n b e = record {
  out = ap (λ (x : Batch). x.out) e;
  listing = ap (λ (x : Batch). x.listing) e;
  frequencies = ap (λ (x : Batch). x.frequencies) e;
  decks = ap (λ (x : Batch). x.decks) e;
  totals = ap (λ (x : Batch). x.totals) e;
}

-- the postproc ran
pub ran : (v : VerifiedProgram) (first : Kept) (before after : Given) (store store' : Kept) (old new : Reports) (out list : Device) (g : Going) (totals : Totals) → CasesRan v first before after store old out list totals
    → ((p : Progress) (start : List ℕ) (sound : Bool) → Keeps v p store old start sound list.going → Keeps v (after_application v ApplicationPostproc p) store' new start sound g)
    → Ran v first before after store' new out (record { start = list.start; sound = list.sound; going = g }) totals
ran v first before after store store' old new out list g totals c step =
    let runs = given_runs v.dictionary true true c.bytes in
    let p = after_runs v (begun v first) runs in
    let q = after_application v ApplicationPostproc p in
    let k = step p list.start list.sound c.keeps in
    let n = totals_of v.dictionary runs in
    let w = is_whole v q n (batch v first c.bytes true) (batch_whole v first c.bytes runs c.sound refl) in
    let m = v.image.lists.messages in
    record {
      bytes = c.bytes;
      reads = c.reads;
      unfailing = c.unfailing;
      end = c.end;
      sound = c.sound;
      totals_are = c.totals_are ∙ sym w.totals;
      written = subst (Has out) (sym (w.out ∙ application_out v p)) c.written;
      listed = unended m q.reports;
      has_listed = k.list;
      listing_is =
          ap (λ (h : Held). unended m q.reports ++ ending h totals.cases totals.lines totals.unseen) k.listing
          ∙ (ap (λ (l : List ℕ). l ++ ending (flushed (all_reported (no_reports m) q.reports)) totals.cases totals.lines totals.unseen) (sym (unended_held m q.reports))
          ∙ (listing_held m q.reports totals.cases totals.lines totals.unseen
          ∙ (ap (λ (t : Totals). listing m q.reports t.cases t.lines t.unseen) c.totals_are ∙ sym w.listing)));
      frequencies_are = ap (frequencies_text (item_names v.dictionary)) k.frequencies ∙ sym w.frequencies;
      decks_are = ap (deck_text v.image) k.store_is ∙ sym w.decks;
    }

-- memory lacked in the postproc
pub halts_last : (v : VerifiedProgram) (first : Kept) (before after : Given) (store : Kept) (reports : Reports) (out list : Device) (g : Going) (totals : Totals) → CasesRan v first before after store reports out list totals
    → Puts list.going g [] → Halts v first before after out (record { start = list.start; sound = list.sound; going = g }) (record { number = 90; line = 0 })
halts_last v first before after store reports out list g totals c idle =
    let runs = given_runs v.dictionary true true c.bytes in
    let p = after_runs v (begun v first) runs in
    let front = fronts_stay v first c.bytes true runs [] (sym (append-nil runs)) in
    let text = unended v.image.lists.messages p.reports in
    record {
      bytes = c.bytes;
      ended = true;
      reads = c.reads;
      end = λ e. c.end;
      runs = runs;
      more = [];
      given_are = sym (append-nil runs);
      written = p.out;
      written_is = refl;
      listed = text;
      has_written = c.written;
      has_listed = subst (λ (l : List ℕ). Gathering list.start list.sound g l) (append-nil text) (idle list.start list.sound text c.keeps.list);
      out_front = front.out;
      listing_front = front.listing;
      out_whole = λ low. absurd (omega arith);
      listing_whole = λ low. absurd (omega arith);
      faulty = λ low. absurd (omega arith);
      needed = λ q. absurd (omega arith);
      unfailing = λ q. c.unfailing;
      reading = λ q. absurd (omega arith);
      writing = λ q. absurd (omega arith);
      other = λ high. inr (inr refl);
      no_line = λ high. refl;
    }

-- ---- fronts of texts

-- nothing was written
pub no_front : (a b : List ℕ) (text : List ℕ) → b ≡ a → AppendsFront a b text
no_front a b text e = record { written = []; rest = text; is = refl; appends = subst (λ (l : List ℕ). Appends a l []) (sym e) (Appends-nil a) }

front_more : (a b : List ℕ) (text all : List ℕ) → Begins text all → AppendsFront a b text → AppendsFront a b all
front_more a b text all g f = record { written = f.written; rest = f.rest ++ g.rest; is = g.is ∙ (ap (λ l. l ++ g.rest) f.is ∙ append_assoc f.written f.rest g.rest); appends = f.appends }

-- where it was not given up, a front was written and the rest waits
gathered : (start : List ℕ) (sound : Bool) (g : Going) (text : List ℕ) → g.gave_up ≡ false → Gathering start sound g text → Gathered start sound g text
gathered start sound g text e h = MatchBool-at_false (GaveUp start g text) (Gathered start sound g text) e h

-- where it was, it doesn't count whether the device was sound
still : (o : Device) (text : List ℕ) → o.going.gave_up ≡ true → Has o text → Gathering o.start true o.going text
still o text e h = subst (λ (b : Bool). MatchBool b (GaveUp o.start o.going text) (Gathered o.start true o.going text)) (sym e) (gave_up o.start o.sound o.going text e h)

-- all of it, where nothing of the front is left
appends_as : (a b : List ℕ) (text all : List ℕ) → text ≡ all → (f : AppendsFront a b text) → f.rest ≡ [] → Appends a b all
appends_as a b text all e f none = subst (λ (l : List ℕ). Appends a b l) (sym (append-nil f.written) ∙ (ap (λ l. f.written ++ l) (sym none) ∙ (sym f.is ∙ e))) f.appends

-- what was put so far was written, or a front of it
pub front_now : (o : Device) (text : List ℕ) → Has o text → AppendsFront o.start o.going.contents text
front_now o text h = by o.going.gave_up refl
  where
    by : (b : Bool) → o.going.gave_up ≡ b → AppendsFront o.start o.going.contents text
    by true e = (gave_up o.start o.sound o.going text e h).front
    by false e = let w = gathered o.start o.sound o.going text e h in record { written = w.written; rest = o.going.waiting; is = w.is; appends = w.appends }

-- once it was given up, the device has failed, whatever the end answers
failed_at : (r : Result (Unit {0}) Failed) (failed : Bool) → FailsAtErr r true failed → failed ≡ true
failed_at (Ok x) failed f = f
failed_at (Err e) failed f = f

-- how an output was closed
pub record Closed (o : Device) (r : Result (Unit {0}) Failed) (new : List ℕ) (failed : Bool) (text : List ℕ) : Type 0 where
  pub writes : WritesAll r o.start new text
  pub fails : FailsAtErr r o.sound failed
  pub gave_up : o.going.gave_up ≡ true → failed ≡ true

pub closed : (o : Device) (r : Result (Unit {0}) Failed) (new : List ℕ) (failed : Bool) (text : List ℕ) → Finishes r o.going new failed → Has o text → Closed o r new failed text
closed o r new failed text f h = record {
  writes = (f o.start o.sound text h).0;
  fails = (f o.start o.sound text h).1;
  gave_up = λ e. failed_at r failed (f o.start true text (still o text e h)).1;
}

-- a run that was stopped
pub stops : (v : VerifiedProgram) (first : Kept) (before after : Given) (out list : Device) (fault : RunFault) (h : Halts v first before after out list fault)
    (r r' : Result (Unit {0}) Failed) (new new' : List ℕ) (failed failed' : Bool) → Closed out r new failed h.written → Closed list r' new' failed' h.listed → (f f' d d' : List ℕ) (ff df : Bool) → f' ≡ f → d' ≡ d
    → RunStops v first before after (contents out.start list.start f d) (contents new new' f' d') (failures failed failed' ff df) fault
stops v first before after out list fault h r r' new new' failed failed' a b f f' d d' ff df same_f same_d =
    let all = batch v first h.bytes h.ended in
    record {
      bytes = h.bytes;
      ended = h.ended;
      reads = h.reads;
      end = h.end;
      fronts = record {
        out = front_more out.start new h.written all.out h.out_front (front_of r out.start new h.written a.writes);
        listing = front_more list.start new' h.listed all.listing h.listing_front (front_of r' list.start new' h.listed b.writes);
        frequencies = no_front f f' all.frequencies same_f;
        decks = no_front d d' all.decks same_d;
      };
      faulty = h.faulty;
      needed = h.needed;
      out_whole = λ low works. appends_as out.start new h.written all.out (h.out_whole low) (front_of r out.start new h.written a.writes) (all_of r out.start new h.written out.sound failed a.writes a.fails works);
      listing_whole = λ low works. appends_as list.start new' h.listed all.listing (h.listing_whole low) (front_of r' list.start new' h.listed b.writes) (all_of r' list.start new' h.listed list.sound failed' b.writes b.fails works);
      out_runs = λ works. record {
        runs = h.runs;
        more = h.more;
        given_are = h.given_are;
        appends = appends_as out.start new h.written (after_runs v (begun v first) h.runs).out h.written_is (front_of r out.start new h.written a.writes) (all_of r out.start new h.written out.sound failed a.writes a.fails works);
      };
      unfailing = h.unfailing;
      reading = h.reading;
      writing = λ e. elim (h.writing e) [ inl g ↦ inl (a.gave_up g) | inr g ↦ inr (inl (b.gave_up g)) ];
      other = h.other;
      no_line = h.no_line;
    }

-- ---- an output that failed at the end

-- the lines of a whole batch are those of its runs
out_whole : (v : VerifiedProgram) (first : Kept) (bytes : List ℕ) → fault_in v.dictionary true true bytes ≡ None → (batch v first bytes true).out ≡ (after_runs v (begun v first) (given_runs v.dictionary true true bytes)).out
out_whole v first bytes sound =
    let runs = given_runs v.dictionary true true bytes in
    let p = after_runs v (begun v first) runs in
    (is_whole v (after_application v ApplicationPostproc p) (totals_of v.dictionary runs) (batch v first bytes true) (batch_whole v first bytes runs sound refl)).out ∙ application_out v p

pub stops_end : (v : VerifiedProgram) (first : Kept) (before after : Given) (store : Kept) (reports : Reports) (o l : Device) (totals : Totals) (old new : Contents) (failed : Failures) (r : Ran v first before after store reports o l totals)
    → GivesFronts old new (batch v first r.bytes true) → (failed.out ≡ false → Appends old.out new.out (batch v first r.bytes true).out) → HasFailure failed → RunStops v first before after old new failed (record { number = 71; line = 0 })
stops_end v first before after store reports o l totals old new failed r fronts wrote some = record {
  bytes = r.bytes;
  ended = true;
  reads = r.reads;
  end = λ e. r.end;
  fronts = fronts;
  faulty = λ low. absurd (omega arith);
  needed = λ q. absurd (omega arith);
  out_whole = λ low. absurd (omega arith);
  listing_whole = λ low. absurd (omega arith);
  out_runs = λ works. record {
    runs = given_runs v.dictionary true true r.bytes;
    more = [];
    given_are = sym (append-nil (given_runs v.dictionary true true r.bytes));
    appends = subst (λ (t : List ℕ). Appends old.out new.out t) (out_whole v first r.bytes r.sound) (wrote works);
  };
  unfailing = λ q. r.unfailing;
  reading = λ q. absurd (omega arith);
  writing = λ q. some;
  other = λ high. inr (inl refl);
  no_line = λ high. refl;
}

-- memory lacked before anything was read
pub stops_at_once : (v : VerifiedProgram) (first : Kept) (before : Given) (old : Contents) (failed : Failures) → RunStops v first before before old old failed (record { number = 90; line = 0 })
stops_at_once v first before old failed = record {
  bytes = [];
  ended = false;
  reads = Consumes-nil before;
  end = λ e. absurd cc;
  fronts = record { out = no_front old.out _ _ refl; listing = no_front old.listing _ _ refl; frequencies = no_front old.frequencies _ _ refl; decks = no_front old.decks _ _ refl };
  faulty = λ low. absurd (omega arith);
  needed = λ q. absurd (omega arith);
  out_whole = λ low. absurd (omega arith);
  listing_whole = λ low. absurd (omega arith);
  out_runs = λ works. record { runs = []; more = _; given_are = refl; appends = subst (λ (t : List ℕ). Appends old.out old.out t) (sym (begun_out v first)) (Appends-nil old.out) };
  unfailing = λ q. refl;
  reading = λ q. absurd (omega arith);
  writing = λ q. absurd (omega arith);
  other = λ high. inr (inr refl);
  no_line = λ high. refl;
}

-- all of a text is a front of it
pub front_all : (a b : List ℕ) (text all : List ℕ) → text ≡ all → Appends a b text → AppendsFront a b all
front_all a b text all e w = record { written = text; rest = []; is = sym e ∙ sym (append-nil text); appends = w }

-- a front of what comes behind a text that was written
pub front_behind : (a b c : List ℕ) (text more all : List ℕ) → text ++ more ≡ all → Appends a b text → AppendsFront b c more → AppendsFront a c all
front_behind a b c text more all e w f = subst (λ (l : List ℕ). AppendsFront a c l) e (AppendsFront-after a b c text more w f)

pub front_first : (a b : List ℕ) (text more all : List ℕ) → text ++ more ≡ all → AppendsFront a b text → AppendsFront a b all
front_first a b text more all e f = front_more a b text all (record { rest = more; is = sym e }) f

pub appends_behind : (a b c : List ℕ) (text more all : List ℕ) → text ++ more ≡ all → Appends a b text → Appends b c more → Appends a c all
appends_behind a b c text more all e w f = subst (λ (l : List ℕ). Appends a c l) e (Appends-trans a b c text more w f)

pub front_as : (a b : List ℕ) (text all : List ℕ) → text ≡ all → AppendsFront a b text → AppendsFront a b all
front_as a b text all e f = subst (λ (l : List ℕ). AppendsFront a b l) e f

-- it went to the end
pub runs_whole : (v : VerifiedProgram) (first : Kept) (before after : Given) (store : Kept) (reports : Reports) (o l : Device) (totals : Totals) (old new : Contents) (r : Ran v first before after store reports o l totals)
    → GivesTexts old new (batch v first r.bytes true) → RunsWhole v first before after old new totals
runs_whole v first before after store reports o l totals old new r texts = record { bytes = r.bytes; reads = r.reads; unfailing = r.unfailing; end = r.end; sound = r.sound; texts = texts; totals_are = r.totals_are }
