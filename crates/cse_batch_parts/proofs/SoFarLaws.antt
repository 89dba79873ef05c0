-- What is known of a data file, run of lines by run of lines.
use Rattle.std.proofs.Common.{◌≡◌, ℕ, ◌+◌, ◌*◌, ◌^◌, ◌<◌, ◌≤◌, ◌⊎◌, Bool, true, false, List, [], ◌∷◌, ◌++◌, length, None, Some, Ok, Err, Result, cond, refl, ap, sym, ◌∙◌, subst, arith, append_assoc, append-nil, length-append, zero-add, inl, inr}
use Rattle.std.specs.Prelude.{sum_by, count_by}
use Rattle.cse_lemmas.proofs.Booleans.{cond-le-one}
use Rattle.cse_value.specs.Device.{Consumes, FailsOnce, Given, IsUnfailing}
use Rattle.cse_value.proofs.ReadLaws.{Consumes-trans, Consumes-nil, Fails-after}
use Rattle.std.proofs.lemmas.List.{length-map}
use Rattle.std.proofs.lemmas.List.Sums.{sum_by-append}
use Rattle.std.proofs.lemmas.Bool.{eq-eqb, false≢true, ne_eqb}
use Rattle.cse_dict.specs.Dictionary.{DictionaryText, shape_of}
use Rattle.cse_case.specs.declared.error.DataError.{DataError}
use Rattle.cse_case.specs.Line.{FileLine}
use Rattle.cse_case.specs.Columns.{line_text}
use Rattle.cse_case.specs.Run.{RunText, written_run}
use Rattle.cse_case.specs.Runs.{given_runs, fault_in, later_by, MayFollow}
use Rattle.cse_case.specs.Reader.{ReaderText, IsError, IsFaulty, NeedsMore, held_of, is_front}
use Rattle.cse_case.proofs.RunLaws.{later_by-zero, later_by-later_by, nothing_given, nothing_faulty, may_follow}
use Rattle.std.proofs.lemmas.Bool.{MatchBool-at_true}
use Rattle.cse_value.specs.declared.device.Failed.{Failed}
use Rattle.cse_value.specs.Writing.{AppendsFront, FailsAtErr, WritesAll}
use Rattle.cse_value.specs.Gathering.{Gathered, Gathering, GaveUp, Going}
use Rattle.cse_case.specs.Case.{CaseText, records_of, types_of, unseen_lines}
use Rattle.cse_case.specs.Seen.{is_case, unseen_of}
use Rattle.cse_case.specs.Reading.{NextCase, GivesCase}
use Rattle.cse_case.proofs.CaseLaws.{length-unseen_of, unseen_below}
use Rattle.cse_batch_parts.specs.declared.totals.Totals.{Totals}
use Rattle.cse_batch_parts.specs.Totals.{is_case_run, unseen_in, totals_of}
use Rattle.cse_batch_parts.specs.DataFaults.{BreaksOff, IsDataFault}

-- the runs so far: their bytes, and that the rest is given of what is held and may follow
pub record SoFar (before now : Given) (d : DictionaryText) (r : ReaderText) (text : List ℕ) (totals : Totals) : Type 0 where
  pub runs : List (List FileLine)
  pub dictionary : r.dictionary ≡ d
  pub reads : Consumes before now (text ++ held_of r)
  pub unfailing : IsUnfailing before now
  pub counted : r.reads ≤ length (text ++ held_of r)
  pub totals_are : totals ≡ totals_of d runs
  pub lines_are : totals.lines ≡ r.lines
  pub few_cases : totals.cases ≤ totals.lines
  pub few_unseen : totals.unseen ≤ totals.lines
  pub few : r.lines ≤ 2 ^ 40 * 65536
  pub goes_on : (later : Bool) (more : List ℕ) → MayFollow r.ended later more → given_runs d true later ((text ++ held_of r) ++ more) ≡ runs ++ given_runs d (is_front r) later (held_of r ++ more)
  pub fault : (later : Bool) (more : List ℕ) → MayFollow r.ended later more → fault_in d true later ((text ++ held_of r) ++ more) ≡ later_by r.lines (fault_in d (is_front r) later (held_of r ++ more))

-- nothing was read
pub SoFar-none : (now : Given) (d : DictionaryText) (r : ReaderText) → r.dictionary ≡ d → held_of r ≡ [] → r.ended ≡ false → r.reads ≡ 0 → r.lines ≡ 0
    → SoFar now now d r [] (record { cases = 0; lines = 0; unseen = 0 })
SoFar-none now d r same none unended unread front =
    let first : is_front r ≡ true = eq-eqb r.lines 0 front in
    record {
      runs = [];
      dictionary = same;
      reads = rw none (Consumes-nil now);
      unfailing = refl;
      counted = omega arith;
      totals_are = refl;
      lines_are = sym front;
      few_cases = omega arith;
      few_unseen = omega arith;
      few = omega arith;
      goes_on = λ later more h. ap (λ f. given_runs d f later (held_of r ++ more)) (sym first);
      fault = λ later more h. ap (λ f. fault_in d f later (held_of r ++ more)) (sym first) ∙ (sym (later_by-zero (fault_in d (is_front r) later (held_of r ++ more))) ∙ ap (λ n. later_by n (fault_in d (is_front r) later (held_of r ++ more))) (sym front));
    }

pub runs-none : (now : Given) (d : DictionaryText) (r : ReaderText) (same : r.dictionary ≡ d) (none : held_of r ≡ []) (unended : r.ended ≡ false) (unread : r.reads ≡ 0) (front : r.lines ≡ 0)
    → (SoFar-none now d r same none unended unread front).runs ≡ []
unfolding SoFar-none
runs-none now d r same none unended unread front = refl

-- a run more is counted
totals_more : (d : DictionaryText) (runs : List (List FileLine)) (run : List FileLine) (case : Bool) (lines unseen : ℕ) → case ≡ is_case_run d run → lines ≡ length run → unseen ≡ unseen_in d run
    → totals_of d (runs ++ run ∷ []) ≡ record { cases = (totals_of d runs).cases + cond case 1 0; lines = (totals_of d runs).lines + lines; unseen = (totals_of d runs).unseen + unseen }
totals_more d runs run case lines unseen e f g =
    let one : count_by (is_case_run d) (runs ++ run ∷ []) ≡ count_by (is_case_run d) runs + cond case 1 0 =
    sum_by-append (λ x. cond (is_case_run d x) 1 0) runs (run ∷ []) ∙ (ap (λ n. count_by (is_case_run d) runs + n) (zero-add (cond (is_case_run d run) 1 0)) ∙ ap (λ t. count_by (is_case_run d) runs + cond t 1 0) (sym e)) in
    let two : sum_by length (runs ++ run ∷ []) ≡ sum_by length runs + lines = sum_by-append length runs (run ∷ []) ∙ (ap (λ n. sum_by length runs + n) (zero-add (length run)) ∙ ap (λ n. sum_by length runs + n) (sym f)) in
    let three : sum_by (unseen_in d) (runs ++ run ∷ []) ≡ sum_by (unseen_in d) runs + unseen = sum_by-append (unseen_in d) runs (run ∷ []) ∙ (ap (λ n. sum_by (unseen_in d) runs + n) (zero-add (unseen_in d run)) ∙ ap (λ n. sum_by (unseen_in d) runs + n) (sym g)) in
    ap (λ n. record { cases = n; lines = sum_by length (runs ++ run ∷ []); unseen = sum_by (unseen_in d) (runs ++ run ∷ []) }) one
    ∙ (ap (λ n. record { cases = count_by (is_case_run d) runs + cond case 1 0; lines = n; unseen = sum_by (unseen_in d) (runs ++ run ∷ []) }) two
    ∙ ap (λ n. record { cases = count_by (is_case_run d) runs + cond case 1 0; lines = sum_by length runs + lines; unseen = n }) three)

-- the runs that are given of all that was read
pub given_so_far : (before now : Given) (d : DictionaryText) (r : ReaderText) (text : List ℕ) (totals : Totals) (s : SoFar before now d r text totals)
    → given_runs d true r.ended (text ++ held_of r) ≡ s.runs ++ given_runs d (is_front r) r.ended (held_of r)
given_so_far before now d r text totals s =
    ap (given_runs d true r.ended) (sym (append-nil (text ++ held_of r))) ∙ (s.goes_on r.ended [] (λ e. (e, refl)) ∙ ap (λ l. s.runs ++ given_runs d (is_front r) r.ended l) (append-nil (held_of r)))

module _ (before now after : Given) (d : DictionaryText) (r r' : ReaderText) (text : List ℕ) (totals : Totals) (s : SoFar before now d r text totals) where
  module _ (c : CaseText) (n : NextCase now after r r' (Ok (Some c))) where
    pub gives : GivesCase d (held_of r ++ n.taken) (held_of r') (is_front r) r'.ended (r.lines + 1) c
    gives = subst (λ (x : DictionaryText). GivesCase x (held_of r ++ n.taken) (held_of r') (is_front r) r'.ended (r.lines + 1) c) s.dictionary n.answers

    shift : (text ++ held_of r) ++ n.taken ≡ (text ++ written_run c.run) ++ held_of r'
    shift = append_assoc text (held_of r) n.taken ∙ (ap (λ l. text ++ l) gives.run.whole ∙ sym (append_assoc text (written_run c.run) (held_of r')))

    run_lines : length c.run.lines ≡ length gives.run.lines
    run_lines = ap (λ (x : RunText). length x.lines) gives.run.is ∙ length-map gives.run.lines (line_text d)

    case_lines : 0 < length c.run.lines
    case_lines = omega (arith, run_lines, gives.run.some)

    case_unseen : length (unseen_lines c) ≤ length c.run.lines
    case_unseen = omega (arith, unseen_below (records_of c) c.run.first_line (types_of c.run.lines), length-map c.run.lines (λ l. l.record_number))

    dictionary_is : c.dictionary ≡ d
    dictionary_is = ap (λ (x : CaseText). x.dictionary) gives.is

    unseen_is : length (unseen_lines c) ≡ unseen_in d gives.run.lines
    unseen_is =
        length-unseen_of (records_of c) c.run.first_line 1 (types_of c.run.lines)
        ∙ (ap (λ (x : DictionaryText). length (unseen_of (shape_of x).records 1 (types_of c.run.lines))) dictionary_is
        ∙ ap (λ (x : RunText). length (unseen_of (shape_of d).records 1 (types_of x.lines))) gives.run.is)

    is_case_is : is_case (records_of c) (types_of c.run.lines) ≡ is_case_run d gives.run.lines
    is_case_is =
        ap (λ (x : DictionaryText). is_case (shape_of x).records (types_of c.run.lines)) dictionary_is
        ∙ ap (λ (x : RunText). is_case (shape_of d).records (types_of x.lines)) gives.run.is

    pub lines_now : r'.lines ≡ r.lines + length gives.run.lines
    lines_now = n.lines ∙ ap (λ k. r.lines + k) run_lines

    behind : is_front r' ≡ false
    behind = ne_eqb r'.lines 0 (λ e. absurd (omega (arith, lines_now, gives.run.some)))

    -- a case more was read
    pub SoFar-case : IsUnfailing now after → (case : Bool) → case ≡ is_case (records_of c) (types_of c.run.lines) → r'.lines ≤ 2 ^ 40 * 65536
        → SoFar before after d r' (text ++ written_run c.run) (record { cases = totals.cases + cond case 1 0; lines = totals.lines + length c.run.lines; unseen = totals.unseen + length (unseen_lines c) })
    SoFar-case works case is few =
        let more = totals_more d s.runs gives.run.lines case (length c.run.lines) (length (unseen_lines c)) (is ∙ is_case_is) run_lines unseen_is in
        let one : cond case 1 0 ≤ 1 = cond-le-one case in
        record {
          runs = s.runs ++ gives.run.lines ∷ [];
          dictionary = n.dictionary ∙ s.dictionary;
          reads = subst (Consumes before after) shift (Consumes-trans before now after (text ++ held_of r) n.taken s.reads n.consumes);
          unfailing = works ∙ s.unfailing;
          counted = omega (arith, s.counted, n.counted, ap length shift, length-append (text ++ held_of r) n.taken);
          totals_are = ap (λ (t : Totals). record { cases = t.cases + cond case 1 0; lines = t.lines + length c.run.lines; unseen = t.unseen + length (unseen_lines c) }) s.totals_are ∙ sym more;
          lines_are = omega (arith, s.lines_are, lines_now, run_lines);
          few_cases = omega (arith, s.few_cases, case_lines, one);
          few_unseen = omega (arith, s.few_unseen, case_unseen);
          few = few;
          goes_on = λ later rest h.
              let before' = s.goes_on later (n.taken ++ rest) (may_follow r.ended r'.ended later n.taken rest n.stays h) in
              let first = gives.run.first later rest h in
              ap (λ l. given_runs d true later (l ++ rest)) (sym shift)
              ∙ (ap (given_runs d true later) (append_assoc (text ++ held_of r) n.taken rest)
              ∙ (before' ∙ (ap (λ l. s.runs ++ given_runs d (is_front r) later l) (sym (append_assoc (held_of r) n.taken rest))
              ∙ (ap (λ l. s.runs ++ l) first ∙ (ap (λ f. s.runs ++ (gives.run.lines ∷ given_runs d f later (held_of r' ++ rest))) (sym behind)
              ∙ sym (append_assoc s.runs (gives.run.lines ∷ []) (given_runs d (is_front r') later (held_of r' ++ rest))))))));
          fault = λ later rest h.
              let before' = s.fault later (n.taken ++ rest) (may_follow r.ended r'.ended later n.taken rest n.stays h) in
              let first = gives.run.fault later rest h in
              ap (λ l. fault_in d true later (l ++ rest)) (sym shift)
              ∙ (ap (fault_in d true later) (append_assoc (text ++ held_of r) n.taken rest)
              ∙ (before' ∙ (ap (λ l. later_by r.lines (fault_in d (is_front r) later l)) (sym (append_assoc (held_of r) n.taken rest))
              ∙ (ap (later_by r.lines) first ∙ (later_by-later_by r.lines (length gives.run.lines) (fault_in d false later (held_of r' ++ rest))
              ∙ (ap (λ k. later_by k (fault_in d false later (held_of r' ++ rest))) (sym lines_now) ∙ ap (λ f. later_by r'.lines (fault_in d f later (held_of r' ++ rest))) (sym behind)))))));
        }

    -- its run comes behind the others
    pub runs-case : (works : IsUnfailing now after) (case : Bool) (is : case ≡ is_case (records_of c) (types_of c.run.lines)) (few : r'.lines ≤ 2 ^ 40 * 65536) → (SoFar-case works case is few).runs ≡ s.runs ++ gives.run.lines ∷ []
    unfolding SoFar-case
    runs-case works case is few = refl

  module _ (n : NextCase now after r r' (Ok None)) where
    all : (text ++ held_of r) ++ n.taken ≡ text
    all = append_assoc text (held_of r) n.taken ∙ (ap (λ l. text ++ l) n.answers.none ∙ append-nil text)

    -- no other run is given
    pub given_all : given_runs d true true text ≡ s.runs
    given_all =
        ap (given_runs d true true) (sym all)
        ∙ (s.goes_on true n.taken (λ e. (refl, (n.stays e).0))
        ∙ (ap (λ l. s.runs ++ given_runs d (is_front r) true l) n.answers.none
        ∙ (ap (λ l. s.runs ++ l) (nothing_given d (is_front r)) ∙ append-nil s.runs)))

    pub sound_all : fault_in d true true text ≡ None
    sound_all =
        ap (fault_in d true true) (sym all)
        ∙ (s.fault true n.taken (λ e. (refl, (n.stays e).0)) ∙ (ap (λ l. later_by r.lines (fault_in d (is_front r) true l)) n.answers.none ∙ ap (later_by r.lines) (nothing_faulty d (is_front r))))

    pub reads_all : Consumes before after text
    reads_all = subst (Consumes before after) all (Consumes-trans before now after (text ++ held_of r) n.taken s.reads n.consumes)

  module _ (error : DataError) (n : NextCase now after r r' (Err error)) where
    pub is_error : IsError d (held_of r ++ n.taken) (is_front r) r'.ended r.lines error
    is_error = subst (λ (x : DictionaryText). IsError x (held_of r ++ n.taken) (is_front r) r'.ended r.lines error) s.dictionary n.answers

    whole : (text ++ held_of r) ++ n.taken ≡ text ++ (held_of r ++ n.taken)
    whole = append_assoc text (held_of r) n.taken

    pub data_fault : IsFaulty d (held_of r ++ n.taken) (is_front r) r'.ended r.lines error → IsDataFault d r'.ended (text ++ (held_of r ++ n.taken)) (record { number = error.number; line = error.line })
    data_fault f = record {
      place = r.lines + f.place;
      first = ap (fault_in d true r'.ended) (sym whole) ∙ (s.fault r'.ended n.taken (λ e. ((n.stays e).1, (n.stays e).0)) ∙ ap (later_by r.lines) f.fault);
      line = f.line;
    }

    pub breaks_off : NeedsMore d (held_of r ++ n.taken) (is_front r) r'.ended → BreaksOff d r'.ended (text ++ (held_of r ++ n.taken))
    breaks_off needs = record {
      unended = needs.unended;
      sound = ap (fault_in d true r'.ended) (sym whole) ∙ (s.fault r'.ended n.taken (λ e. ((n.stays e).1, (n.stays e).0)) ∙ ap (later_by r.lines) needs.sound);
    }

    -- the runs that are given of all that was read
    pub given_more : given_runs d true r'.ended (text ++ (held_of r ++ n.taken)) ≡ s.runs ++ given_runs d (is_front r) r'.ended (held_of r ++ n.taken)
    given_more = ap (given_runs d true r'.ended) (sym whole) ∙ s.goes_on r'.ended n.taken (λ e. ((n.stays e).1, (n.stays e).0))

    pub reads_more : Consumes before after (text ++ (held_of r ++ n.taken))
    reads_more = subst (Consumes before after) whole (Consumes-trans before now after (text ++ held_of r) n.taken s.reads n.consumes)

    pub few_reads : FailsOnce now after ⊎ (r'.reads ≡ 2 ^ 40) → FailsOnce before after ⊎ (2 ^ 40 ≤ length (text ++ (held_of r ++ n.taken)))
    few_reads (inl f) = inl (Fails-after before now after s.unfailing f)
    few_reads (inr f) = inr (omega (arith, s.counted, n.counted, ap length whole, length-append (text ++ held_of r) n.taken))

-- all of the text was written, or a front of it
pub front_of : (r : Result (Unit {0}) Failed) (a b : List ℕ) (text : List ℕ) → WritesAll r a b text → AppendsFront a b text
front_of (Ok x) a b text w = record { written = text; rest = []; is = sym (append-nil text); appends = w }
front_of (Err e) a b text w = w

-- and all of it where the device hasn't failed
pub all_of : (r : Result (Unit {0}) Failed) (a b : List ℕ) (text : List ℕ) (sound failed : Bool) → (w : WritesAll r a b text) → FailsAtErr r sound failed → failed ≡ false → (front_of r a b text w).rest ≡ []
unfolding front_of
all_of (Ok x) a b text sound failed w f e = refl
all_of (Err x) a b text sound failed w f e = absurd (false≢true (sym e ∙ f))

-- once it was given up, a front was written and the device has failed
pub gave_up : (start : List ℕ) (sound : Bool) (g : Going) (text : List ℕ) → g.gave_up ≡ true → Gathering start sound g text → GaveUp start g text
gave_up start sound g text e h = MatchBool-at_true (GaveUp start g text) (Gathered start sound g text) e h
