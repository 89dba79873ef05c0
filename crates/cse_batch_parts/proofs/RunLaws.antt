-- What a run knows, run of lines by run of lines.
use Rattle.std.proofs.Common.{◌≡◌, ◌≢◌, ℕ, ◌+◌, ◌*◌, ◌^◌, ◌<◌, ◌≤◌, ◌⊎◌, Bool, true, false, List, [], ◌∷◌, ◌++◌, length, None, Some, Ok, Err, cond, refl, ap, sym, ◌∙◌, subst, arith, append_assoc, append-nil, inl, inr}
use Rattle.std.specs.Prelude.{replicate}
use Rattle.cse_value.specs.Device.{FailsOnce, Given, IsAtEnd, IsUnfailing}
use Rattle.cse_value.proofs.ReadLaws.{Consumes-nil}
use Rattle.std.proofs.lemmas.Bool.{cases_lt}
use Rattle.cse_image_parts.specs.declared.entries.EventCode.TheVariants.{ApplicationPreproc}
use Rattle.cse_case.specs.declared.error.DataError.{DataError}
use Rattle.cse_case.specs.Line.{FileLine}
use Rattle.cse_case.specs.Run.{written_run}
use Rattle.cse_case.specs.Runs.{given_runs}
use Rattle.cse_case.specs.Reader.{ReaderText, held_of, is_front}
use Rattle.cse_case.specs.Case.{CaseText, case_of, records_of, types_of, unseen_lines}
use Rattle.cse_case.specs.Seen.{is_case}
use Rattle.cse_case.specs.Reading.{NextCase}
use Rattle.cse_decks.specs.Store.{Kept}
use Rattle.cse_value.specs.Gathering.{Going, Gathering, Puts}
use Rattle.cse_report.specs.Held.{Held, begun as no_reports, flushed}
use Rattle.cse_report.specs.Listing.{first_line}
use Rattle.cse_report.specs.Unended.{unended}
use Rattle.cse_report.specs.declared.reports.Reports.{Reports}
use Rattle.cse_verify.specs.Verified.{VerifiedProgram}
use Rattle.cse_batch_parts.specs.declared.totals.Totals.{Totals}
use Rattle.cse_batch_parts.specs.declared.totals.RunFault.{RunFault}
use Rattle.cse_batch_parts.specs.Totals.{totals_of}
use Rattle.cse_batch_parts.specs.Batch.{Batch, Progress, after_application, after_run, after_runs, batch, begun, next_case, stopped}
use Rattle.cse_batch_parts.specs.Edits.{Edits, Keeps}
use Rattle.cse_batch_parts.specs.RunState.{CasesRan, Device, Halts, Has, IsUnread}
use Rattle.cse_batch_parts.proofs.BatchLaws.{batch_broken, batch_faulty, fronts_stay, runs_later}
use Rattle.cse_batch_parts.proofs.EditLaws.{keeps_case, out_of_case}
use Rattle.cse_batch_parts.proofs.SoFarLaws.{SoFar, SoFar-case, SoFar-none, breaks_off, data_fault, few_reads, given_all, given_more, given_so_far, gives, is_error, lines_now, reads_all, reads_more, runs-case, runs-none, sound_all}

-- before the application's preproc
abbrev pub unbegun : Kept → Progress
unbegun store = record { store = store; reports = []; imputed = []; out = []; lines = 0 }

-- the listing's first line is put
pub keeps_nothing : (v : VerifiedProgram) (store : Kept) (old new : Reports) (start : List ℕ) (sound : Bool) (g g' : Going) → old.listing ≡ no_reports v.image.lists.messages → old.frequencies ≡ replicate (length v.image.lists.items) []
    → Gathering start sound g [] → Puts g g' old.listing.lines → new.listing ≡ flushed old.listing → new.frequencies ≡ old.frequencies → Keeps v (unbegun store) store new start sound g'
keeps_nothing v store old new start sound g g' none empty nothing puts flush same = record {
  store_is = refl;
  listing = flush ∙ ap flushed none;
  frequencies = same ∙ empty;
  list = subst (λ (l : List ℕ). Gathering start sound g' l) (ap (λ (h : Held). h.lines) none ∙ sym (append-nil first_line)) (puts start sound [] nothing);
}

-- and nothing else
pub one_line : (v : VerifiedProgram) (old : Reports) (start : List ℕ) (sound : Bool) (g g' g'' : Going) → old.listing ≡ no_reports v.image.lists.messages → Gathering start sound g [] → Puts g g' old.listing.lines → Puts g' g'' []
    → Gathering start sound g'' first_line
one_line v old start sound g g' g'' none nothing puts idle =
    let put = subst (λ (l : List ℕ). Gathering start sound g' l) (ap (λ (h : Held). h.lines) none) (puts start sound [] nothing) in
    subst (λ (l : List ℕ). Gathering start sound g'' l) (append-nil first_line) (idle start sound first_line put)

-- ---- the runs so far

-- the run is as far as the batch over the runs that were given
pub record Running (v : VerifiedProgram) (first : Kept) (before now : Given) (r : ReaderText) (store : Kept) (reports : Reports) (out listing : Device) (totals : Totals) : Type 0 where
  pub text : List ℕ
  pub so_far : SoFar before now v.dictionary r text totals
  pub keeps : Keeps v (after_runs v (begun v first) so_far.runs) store reports listing.start listing.sound listing.going
  pub written : Has out (after_runs v (begun v first) so_far.runs).out
  pub lines : (after_runs v (begun v first) so_far.runs).lines ≡ r.lines

-- the same, with the runs told apart
record IsAsFar (v : VerifiedProgram) (p : Progress) (r : ReaderText) (store : Kept) (reports : Reports) (out listing : Device) : Type 0 where
  keeps : Keeps v p store reports listing.start listing.sound listing.going
  written : Has out p.out
  lines : p.lines ≡ r.lines

running : (v : VerifiedProgram) (first : Kept) (before now : Given) (r : ReaderText) (store : Kept) (reports : Reports) (out listing : Device) (totals : Totals) (text : List ℕ) (s : SoFar before now v.dictionary r text totals)
    (p : Progress) → p ≡ after_runs v (begun v first) s.runs → IsAsFar v p r store reports out listing → Running v first before now r store reports out listing totals
running v first before now r store reports out listing totals text s p is far =
    let here = subst (λ (q : Progress). IsAsFar v q r store reports out listing) is far in
    record { text = text; so_far = s; keeps = here.keeps; written = here.written; lines = here.lines }

pub begun_out : (v : VerifiedProgram) (first : Kept) → (begun v first).out ≡ []
unfolding begun after_application
begun_out v first = refl

begun_lines : (v : VerifiedProgram) (first : Kept) → (begun v first).lines ≡ 0
unfolding begun after_application
begun_lines v first = refl

run_lines : (v : VerifiedProgram) (p : Progress) (run : List FileLine) → (after_run v p run).lines ≡ p.lines + length run
unfolding after_run
run_lines v p run = refl

-- after the application's preproc
pub running_none : (v : VerifiedProgram) (first : Kept) (now : Given) (r : ReaderText) (store : Kept) (reports : Reports) (out listing : Device) → IsUnread v r
    → Keeps v (after_application v ApplicationPreproc (unbegun first)) store reports listing.start listing.sound listing.going → Has out []
    → Running v first now now r store reports out listing (record { cases = 0; lines = 0; unseen = 0 })
unfolding begun
running_none v first now r store reports out listing u keeps nothing =
    let s = SoFar-none now v.dictionary r u.dictionary u.nothing_held u.unended u.unread u.front in
    running v first now now r store reports out listing (record { cases = 0; lines = 0; unseen = 0 }) [] s (begun v first) (ap (after_runs v (begun v first)) (sym (runs-none now v.dictionary r u.dictionary u.nothing_held u.unended u.unread u.front)))
    (record { keeps = keeps; written = subst (Has out) (sym (begun_out v first)) nothing; lines = begun_lines v first ∙ sym u.front })

module _ (v : VerifiedProgram) (first : Kept) (before now after : Given) (r r' : ReaderText) (store : Kept) (reports : Reports) (out listing : Device) (totals : Totals) (run : Running v first before now r store reports out listing totals) where
  abbrev at : Progress
  at = after_runs v (begun v first) run.so_far.runs

  -- one run of lines more: the case was edited, and its lines and what it listed were put
  module _ (c : CaseText) (n : NextCase now after r r' (Ok (Some c))) where
    abbrev lines_of : List FileLine
    lines_of = (gives before now after v.dictionary r r' run.text totals run.so_far c n).run.lines

    is_next : c ≡ next_case v at lines_of
    is_next =
        (gives before now after v.dictionary r r' run.text totals run.so_far c n).is
        ∙ ap (λ k. case_of v.dictionary (k + 1) lines_of) (sym run.lines)

    pub running_case : IsUnfailing now after → (c' : CaseText) (store' : Kept) (mid new : Reports) (g g' : Going) (case : Bool) → Edits v c store reports c' store' mid → Puts out.going g (written_run c'.run)
        → Puts listing.going g' mid.listing.lines → new.listing ≡ flushed mid.listing → new.frequencies ≡ mid.frequencies → case ≡ is_case (records_of c) (types_of c.run.lines) → r'.lines ≤ 2 ^ 40 * 65536
        → Running v first before after r' store' new (record { start = out.start; sound = out.sound; going = g }) (record { start = listing.start; sound = listing.sound; going = g' })
        (record { cases = totals.cases + cond case 1 0; lines = totals.lines + length c.run.lines; unseen = totals.unseen + length (unseen_lines c) })
    running_case works c' store' mid new g g' case edits puts lists flush same is few =
        let s = SoFar-case before now after v.dictionary r r' run.text totals run.so_far c n works case is few in
        let p' = after_run v at lines_of in
        let runs_are = runs-case before now after v.dictionary r r' run.text totals run.so_far c n works case is few in
        let is_after : p' ≡ after_runs v (begun v first) s.runs = sym (runs_later v (begun v first) run.so_far.runs (lines_of ∷ [])) ∙ ap (after_runs v (begun v first)) (sym runs_are) in
        let written = out_of_case v at lines_of c c' store store' reports mid run.keeps.store_is is_next edits in
        running v first before after r' store' new _ _ _ (run.text ++ written_run c.run) s p' is_after
        (record {
          keeps = keeps_case v at lines_of c c' store store' reports mid new listing.start listing.sound listing.going g' is_next edits lists flush same run.keeps;
          written = subst (λ (l : List ℕ). Gathering out.start out.sound g l) (sym written) (puts out.start out.sound at.out run.written);
          lines = run_lines v at lines_of ∙ (ap (λ k. k + length lines_of) run.lines ∙ sym (lines_now before now after v.dictionary r r' run.text totals run.so_far c n));
        })

  -- the end of the input was read
  pub ran_all : NextCase now after r r' (Ok None) → IsUnfailing now after → IsAtEnd after → CasesRan v first before after store reports out listing totals
  ran_all n works end =
      let d = v.dictionary in
      let is : given_runs d true true run.text ≡ run.so_far.runs = given_all before now after d r r' run.text totals run.so_far n in
      record {
        bytes = run.text;
        reads = reads_all before now after d r r' run.text totals run.so_far n;
        unfailing = works ∙ run.so_far.unfailing;
        end = end;
        sound = sound_all before now after d r r' run.text totals run.so_far n;
        totals_are = run.so_far.totals_are ∙ ap (totals_of d) (sym is);
        keeps = subst (λ (rs : List (List FileLine)). Keeps v (after_runs v (begun v first) rs) store reports listing.start listing.sound listing.going) (sym is) run.keeps;
        written = subst (λ (rs : List (List FileLine)). Has out (after_runs v (begun v first) rs).out) (sym is) run.written;
      }

  -- ---- where it stops

  out_stopped : (b : Batch) (p : Progress) (n : Totals) → b ≡ stopped v p n → p.out ≡ b.out
  unfolding stopped
  out_stopped b p n e = ap (λ (x : Batch). x.out) (sym e)

  listing_stopped : (b : Batch) (p : Progress) (n : Totals) → b ≡ stopped v p n → unended v.image.lists.messages p.reports ≡ b.listing
  unfolding stopped
  listing_stopped b p n e = ap (λ (x : Batch). x.listing) (sym e)

  -- the reader answered an error
  module _ (error : DataError) (n : NextCase now after r r' (Err error)) where
    abbrev bytes : List ℕ
    bytes = run.text ++ (held_of r ++ n.taken)

    abbrev all : Batch
    all = batch v first bytes r'.ended

    abbrev fault : RunFault
    fault = record { number = error.number; line = error.line }

    none_given : given_runs v.dictionary (is_front r) r'.ended (held_of r ++ n.taken) ≡ [] → given_runs v.dictionary true r'.ended bytes ≡ run.so_far.runs
    none_given e = given_more before now after v.dictionary r r' run.text totals run.so_far error n ∙ (ap (λ l. run.so_far.runs ++ l) e ∙ append-nil run.so_far.runs)

    is_stopped : error.number < 71 → all ≡ stopped v at (totals_of v.dictionary run.so_far.runs)
    is_stopped low = elim (cases_lt error.number 70) [
      | inl below ↦
          let f = (is_error before now after v.dictionary r r' run.text totals run.so_far error n).faulty below in
          let d = data_fault before now after v.dictionary r r' run.text totals run.so_far error n f in
          batch_faulty v first bytes r'.ended run.so_far.runs (d.place, error.number) d.first (none_given f.none)
      | inr high ↦
          let f = (is_error before now after v.dictionary r r' run.text totals run.so_far error n).needed (omega arith) in
          batch_broken v first bytes r'.ended run.so_far.runs f.unended (none_given f.none)
    ]

    pub halts_fault : (r'.ended ≡ true → IsAtEnd after) → (error.number ≡ 70 → FailsOnce now after ⊎ (r'.reads ≡ 2 ^ 40)) → (error.number ≢ 70 → IsUnfailing now after) → Halts v first before after out listing fault
    halts_fault end reading sound =
        let e = is_error before now after v.dictionary r r' run.text totals run.so_far error n in
        let front = fronts_stay v first bytes r'.ended run.so_far.runs _ (given_more before now after v.dictionary r r' run.text totals run.so_far error n) in
        record {
          bytes = bytes;
          ended = r'.ended;
          reads = reads_more before now after v.dictionary r r' run.text totals run.so_far error n;
          end = end;
          runs = run.so_far.runs;
          more = _;
          given_are = given_more before now after v.dictionary r r' run.text totals run.so_far error n;
          written = at.out;
          written_is = refl;
          listed = unended v.image.lists.messages at.reports;
          has_written = run.written;
          has_listed = run.keeps.list;
          out_front = front.out;
          listing_front = front.listing;
          out_whole = λ low. out_stopped all at _ (is_stopped low);
          listing_whole = λ low. listing_stopped all at _ (is_stopped low);
          faulty = λ low. data_fault before now after v.dictionary r r' run.text totals run.so_far error n (e.faulty low);
          needed = λ q. breaks_off before now after v.dictionary r r' run.text totals run.so_far error n (e.needed q);
          unfailing = λ q. sound q ∙ run.so_far.unfailing;
          reading = λ q. few_reads before now after v.dictionary r r' run.text totals run.so_far error n (reading q);
          writing = λ q. elim (e.number (omega arith)) [ inl f ↦ absurd (omega arith) | inr f ↦ absurd (omega arith) ];
          other = λ high. elim (e.number high) [ inl f ↦ inl f | inr f ↦ inr (inr f) ];
          no_line = e.line;
        }

  -- an output failed after a run of lines was put
  pub halts_writing : (r.ended ≡ true → IsAtEnd now) → (out.going.gave_up ≡ true) ⊎ (listing.going.gave_up ≡ true) → Halts v first before now out listing (record { number = 71; line = 0 })
  halts_writing end gave_up =
      let front = fronts_stay v first (run.text ++ held_of r) r.ended run.so_far.runs _ (given_so_far before now v.dictionary r run.text totals run.so_far) in
      record {
        bytes = run.text ++ held_of r;
        ended = r.ended;
        reads = run.so_far.reads;
        end = end;
        runs = run.so_far.runs;
        more = _;
        given_are = given_so_far before now v.dictionary r run.text totals run.so_far;
        written = at.out;
        written_is = refl;
        listed = unended v.image.lists.messages at.reports;
        has_written = run.written;
        has_listed = run.keeps.list;
        out_front = front.out;
        listing_front = front.listing;
        out_whole = λ low. absurd (omega arith);
        listing_whole = λ low. absurd (omega arith);
        faulty = λ low. absurd (omega arith);
        needed = λ q. absurd (omega arith);
        unfailing = λ q. run.so_far.unfailing;
        reading = λ q. absurd (omega arith);
        writing = λ q. gave_up;
        other = λ high. inr (inl refl);
        no_line = λ high. refl;
      }

  -- memory lacked in a run of lines, of which nothing was put
  pub halts_memory : (c : CaseText) → NextCase now after r r' (Ok (Some c)) → IsUnfailing now after → (r'.ended ≡ true → IsAtEnd after) → r'.lines ≤ 2 ^ 40 * 65536
      → Halts v first before after out listing (record { number = 90; line = 0 })
  halts_memory c n works end few =
      let d = v.dictionary in
      let s = SoFar-case before now after d r r' run.text totals run.so_far c n works (is_case (records_of c) (types_of c.run.lines)) refl few in
      let bytes = (run.text ++ written_run c.run) ++ held_of r' in
      let lines = lines_of c n in
      let rest = given_runs d (is_front r') r'.ended (held_of r') in
      let is : given_runs d true r'.ended bytes ≡ run.so_far.runs ++ lines ∷ rest =
      given_so_far before after d r' (run.text ++ written_run c.run) _ s
      ∙ (ap (λ (rs : List (List FileLine)). rs ++ rest) (runs-case before now after d r r' run.text totals run.so_far c n works (is_case (records_of c) (types_of c.run.lines)) refl few)
      ∙ append_assoc run.so_far.runs (lines ∷ []) rest) in
      let front = fronts_stay v first bytes r'.ended run.so_far.runs (lines ∷ rest) is in
      record {
        bytes = bytes;
        ended = r'.ended;
        reads = s.reads;
        end = end;
        runs = run.so_far.runs;
        more = lines ∷ rest;
        given_are = is;
        written = at.out;
        written_is = refl;
        listed = unended v.image.lists.messages at.reports;
        has_written = run.written;
        has_listed = run.keeps.list;
        out_front = front.out;
        listing_front = front.listing;
        out_whole = λ low. absurd (omega arith);
        listing_whole = λ low. absurd (omega arith);
        faulty = λ low. absurd (omega arith);
        needed = λ q. absurd (omega arith);
        unfailing = λ q. s.unfailing;
        reading = λ q. absurd (omega arith);
        writing = λ q. absurd (omega arith);
        other = λ high. inr (inr refl);
        no_line = λ high. refl;
      }

-- memory lacked before the first line was read: only the listing's first line was put
pub halts_at_once : (v : VerifiedProgram) (first : Kept) (now : Given) (out listing : Device) → Has out [] → Has listing first_line
    → Halts v first now now out listing (record { number = 90; line = 0 })
halts_at_once v first now out listing nothing one =
    let front = fronts_stay v first [] false [] _ refl in
    record {
      bytes = [];
      ended = false;
      reads = Consumes-nil now;
      end = λ e. absurd cc;
      runs = [];
      more = _;
      given_are = refl;
      written = [];
      written_is = sym (begun_out v first);
      listed = first_line;
      has_written = nothing;
      has_listed = one;
      out_front = record { rest = _; is = refl };
      listing_front = record { rest = _; is = front.listing.is ∙ append_assoc first_line _ front.listing.rest };
      out_whole = λ low. absurd (omega arith);
      listing_whole = λ low. absurd (omega arith);
      faulty = λ low. absurd (omega arith);
      needed = λ q. absurd (omega arith);
      unfailing = λ q. refl;
      reading = λ q. absurd (omega arith);
      writing = λ q. absurd (omega arith);
      other = λ high. inr (inr refl);
      no_line = λ high. refl;
    }
