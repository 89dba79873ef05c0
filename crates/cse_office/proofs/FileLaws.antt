-- Laws of a file that is read, run of lines by run of lines.
use Rattle.std.proofs.Common.{◌≡◌, ◌≢◌, ℕ, ◌+◌, ◌^◌, ◌<◌, ◌≤◌, Bool, true, false, List, [], ◌∷◌, ◌++◌, length, None, Some, Ok, Err, refl, ap, sym, ◌∙◌, subst, arith, append_assoc, append-nil, length-append, ◌⊎◌, inl, inr, eq-eqb, ne_eqb}
use Rattle.cse_value.specs.Device.{Consumes, FailsOnce, Given, IsAtEnd, IsUnfailing}
use Rattle.cse_value.proofs.ReadLaws.{Consumes-trans, Consumes-nil, Fails-after}
use Rattle.std.proofs.lemmas.List.{length-map}
use Rattle.cse_dict.specs.Dictionary.{DictionaryText}
use Rattle.cse_case.specs.declared.error.DataError.{DataError}
use Rattle.cse_case.specs.Line.{FileLine}
use Rattle.cse_case.specs.Columns.{line_text}
use Rattle.cse_case.specs.Run.{RunText, written_run}
use Rattle.cse_case.specs.Runs.{given_runs, fault_in, later_by, MayFollow}
use Rattle.cse_case.specs.Reader.{GivesRun, IsError, Next, ReaderText, held_of, is_front}
use Rattle.cse_case.proofs.RunLaws.{later_by-zero, later_by-later_by, nothing_given, nothing_faulty, may_follow}
use Rattle.cse_office.specs.Files.{HasFault, IsRead, IsReadSoFar, lines_of}

-- the runs so far: their bytes, and that the rest is given of what is held and may follow
pub record SoFar (before now : Given) (d : DictionaryText) (r : ReaderText) (text : List ℕ) (runs : List (List FileLine)) : Type 0 where
  pub dictionary : r.dictionary ≡ d
  pub reads : Consumes before now (text ++ held_of r)
  pub unfailing : IsUnfailing before now
  pub counted : r.reads ≤ length (text ++ held_of r)
  pub goes_on : (later : Bool) (more : List ℕ) → MayFollow r.ended later more → given_runs d true later ((text ++ held_of r) ++ more) ≡ runs ++ given_runs d (is_front r) later (held_of r ++ more)
  pub fault : (later : Bool) (more : List ℕ) → MayFollow r.ended later more → fault_in d true later ((text ++ held_of r) ++ more) ≡ later_by r.lines (fault_in d (is_front r) later (held_of r ++ more))

-- nothing was read
pub SoFar-none : (now : Given) (d : DictionaryText) (r : ReaderText) → r.dictionary ≡ d → held_of r ≡ [] → r.reads ≡ 0 → r.lines ≡ 0 → SoFar now now d r [] []
SoFar-none now d r same none unread front =
    let first : is_front r ≡ true = eq-eqb r.lines 0 front in
    record {
      dictionary = same;
      reads = rw none (Consumes-nil now);
      unfailing = refl;
      counted = omega arith;
      goes_on = λ later more h. ap (λ f. given_runs d f later (held_of r ++ more)) (sym first);
      fault = λ later more h. ap (λ f. fault_in d f later (held_of r ++ more)) (sym first) ∙ (sym (later_by-zero (fault_in d (is_front r) later (held_of r ++ more))) ∙ ap (λ n. later_by n (fault_in d (is_front r) later (held_of r ++ more))) (sym front));
    }

-- what was read so far, and the runs that are given of it
pub so_far : (before now : Given) (d : DictionaryText) (r : ReaderText) (text : List ℕ) (runs : List (List FileLine)) → SoFar before now d r text runs → (r.ended ≡ true → IsAtEnd now)
    → IsReadSoFar d before now (runs ++ given_runs d (is_front r) r.ended (held_of r))
so_far before now d r text runs s end = record {
  bytes = text ++ held_of r;
  ended = r.ended;
  reads = s.reads;
  end = end;
  unfailing = s.unfailing;
  runs_are = ap (given_runs d true r.ended) (sym (append-nil (text ++ held_of r))) ∙ (s.goes_on r.ended [] (λ e. (e, refl)) ∙ ap (λ l. runs ++ given_runs d (is_front r) r.ended l) (append-nil (held_of r)));
}

module _ (before now after : Given) (d : DictionaryText) (r r' : ReaderText) (text : List ℕ) (runs : List (List FileLine)) (s : SoFar before now d r text runs) where
  module _ (run : RunText) (n : Next now after r r' (Ok (Some run))) where
    pub gives : GivesRun d (held_of r ++ n.taken) (held_of r') (is_front r) r'.ended (r.lines + 1) run
    gives = subst (λ (x : DictionaryText). GivesRun x (held_of r ++ n.taken) (held_of r') (is_front r) r'.ended (r.lines + 1) run) s.dictionary n.answers

    shift : (text ++ held_of r) ++ n.taken ≡ (text ++ written_run run) ++ held_of r'
    shift = append_assoc text (held_of r) n.taken ∙ (ap (λ l. text ++ l) gives.whole ∙ sym (append_assoc text (written_run run) (held_of r')))

    -- its lines
    pub run_lines : run.lines ≡ lines_of d gives.lines
    run_lines = ap (λ (x : RunText). x.lines) gives.is

    pub as_many : length run.lines ≡ length gives.lines
    as_many = ap length run_lines ∙ length-map gives.lines (line_text d)

    pub lines_now : r'.lines ≡ r.lines + length gives.lines
    lines_now = n.lines ∙ ap (λ k. r.lines + k) as_many

    behind : is_front r' ≡ false
    behind = ne_eqb r'.lines 0 (λ e. absurd (omega (arith, lines_now, gives.some)))

    -- a run more was read
    pub SoFar-run : IsUnfailing now after → SoFar before after d r' (text ++ written_run run) (runs ++ gives.lines ∷ [])
    SoFar-run works = record {
      dictionary = n.dictionary ∙ s.dictionary;
      reads = subst (Consumes before after) shift (Consumes-trans before now after (text ++ held_of r) n.taken s.reads n.consumes);
      unfailing = works ∙ s.unfailing;
      counted = omega (arith, s.counted, n.counted, ap length shift, length-append (text ++ held_of r) n.taken);
      goes_on = λ later rest h.
          let before' = s.goes_on later (n.taken ++ rest) (may_follow r.ended r'.ended later n.taken rest n.stays h) in
          let first = gives.first later rest h in
          ap (λ l. given_runs d true later (l ++ rest)) (sym shift)
          ∙ (ap (given_runs d true later) (append_assoc (text ++ held_of r) n.taken rest)
          ∙ (before' ∙ (ap (λ l. runs ++ given_runs d (is_front r) later l) (sym (append_assoc (held_of r) n.taken rest))
          ∙ (ap (λ l. runs ++ l) first ∙ (ap (λ f. runs ++ (gives.lines ∷ given_runs d f later (held_of r' ++ rest))) (sym behind)
          ∙ sym (append_assoc runs (gives.lines ∷ []) (given_runs d (is_front r') later (held_of r' ++ rest))))))));
      fault = λ later rest h.
          let before' = s.fault later (n.taken ++ rest) (may_follow r.ended r'.ended later n.taken rest n.stays h) in
          let first = gives.fault later rest h in
          ap (λ l. fault_in d true later (l ++ rest)) (sym shift)
          ∙ (ap (fault_in d true later) (append_assoc (text ++ held_of r) n.taken rest)
          ∙ (before' ∙ (ap (λ l. later_by r.lines (fault_in d (is_front r) later l)) (sym (append_assoc (held_of r) n.taken rest))
          ∙ (ap (later_by r.lines) first ∙ (later_by-later_by r.lines (length gives.lines) (fault_in d false later (held_of r' ++ rest))
          ∙ (ap (λ k. later_by k (fault_in d false later (held_of r' ++ rest))) (sym lines_now) ∙ ap (λ f. later_by r'.lines (fault_in d f later (held_of r' ++ rest))) (sym behind)))))));
    }

  module _ (n : Next now after r r' (Ok None)) where
    all : (text ++ held_of r) ++ n.taken ≡ text
    all = append_assoc text (held_of r) n.taken ∙ (ap (λ l. text ++ l) n.answers.none ∙ append-nil text)

    -- the end was read, and these are all runs
    pub is_read : IsUnfailing now after → IsRead d before after runs
    is_read works = record {
      bytes = text;
      reads = subst (Consumes before after) all (Consumes-trans before now after (text ++ held_of r) n.taken s.reads n.consumes);
      end = n.answers.end;
      unfailing = works ∙ s.unfailing;
      sound = ap (fault_in d true true) (sym all)
          ∙ (s.fault true n.taken (λ e. (refl, (n.stays e).0)) ∙ (ap (λ l. later_by r.lines (fault_in d (is_front r) true l)) n.answers.none ∙ ap (later_by r.lines) (nothing_faulty d (is_front r))));
      runs_are = ap (given_runs d true true) (sym all)
          ∙ (s.goes_on true n.taken (λ e. (refl, (n.stays e).0))
          ∙ (ap (λ l. runs ++ given_runs d (is_front r) true l) n.answers.none
          ∙ (ap (λ l. runs ++ l) (nothing_given d (is_front r)) ∙ append-nil runs)));
    }

  module _ (error : DataError) (n : Next now after r r' (Err error)) where
    is_error : IsError d (held_of r ++ n.taken) (is_front r) r'.ended r.lines error
    is_error = subst (λ (x : DictionaryText). IsError x (held_of r ++ n.taken) (is_front r) r'.ended r.lines error) s.dictionary n.answers

    joined : (text ++ held_of r) ++ n.taken ≡ text ++ (held_of r ++ n.taken)
    joined = append_assoc text (held_of r) n.taken

    none_given : given_runs d (is_front r) r'.ended (held_of r ++ n.taken) ≡ [] → given_runs d true r'.ended (text ++ (held_of r ++ n.taken)) ≡ runs
    none_given none =
        ap (given_runs d true r'.ended) (sym joined) ∙ (s.goes_on r'.ended n.taken (λ e. ((n.stays e).1, (n.stays e).0)) ∙ (ap (λ l. runs ++ l) none ∙ append-nil runs))

    few_reads : FailsOnce now after ⊎ (r'.reads ≡ 2 ^ 40) → FailsOnce before after ⊎ (2 ^ 40 ≤ length (text ++ (held_of r ++ n.taken)))
    few_reads (inl f) = inl (Fails-after before now after s.unfailing f)
    few_reads (inr f) = inr (omega (arith, s.counted, n.counted, ap length joined, length-append (text ++ held_of r) n.taken))

    both_none : (error.number < 70) ⊎ (error.number ≡ 70) → given_runs d (is_front r) r'.ended (held_of r ++ n.taken) ≡ []
    both_none (inl low) = (is_error.faulty low).none
    both_none (inr e) = (is_error.needed e).none

    -- the file has this fault
    pub has_fault : (r'.ended ≡ true → IsAtEnd after) → (error.number ≡ 70 → FailsOnce now after ⊎ (r'.reads ≡ 2 ^ 40)) → (error.number ≢ 70 → IsUnfailing now after)
        → HasFault d before after runs error
    has_fault end reading sound = record {
      bytes = text ++ (held_of r ++ n.taken);
      ended = r'.ended;
      reads = subst (Consumes before after) joined (Consumes-trans before now after (text ++ held_of r) n.taken s.reads n.consumes);
      end = end;
      faulty = λ low.
          let f = is_error.faulty low in
          (r.lines + f.place, (ap (fault_in d true r'.ended) (sym joined) ∙ (s.fault r'.ended n.taken (λ e. ((n.stays e).1, (n.stays e).0)) ∙ ap (later_by r.lines) f.fault), f.line));
      needed = λ e.
          let f = is_error.needed e in
          (f.unended, ap (fault_in d true r'.ended) (sym joined) ∙ (s.fault r'.ended n.taken (λ e. ((n.stays e).1, (n.stays e).0)) ∙ ap (later_by r.lines) f.sound));
      runs_are = λ low. none_given (both_none low);
      reading = λ e. few_reads (reading e);
      unfailing = λ e. sound e ∙ s.unfailing;
      other = is_error.number;
      no_line = is_error.line;
    }
