-- Laws of a comparison of two files.
use Rattle.std.proofs.Common.{◌≡◌, ◌≢◌, ℕ, zero, suc, ◌+◌, ◌^◌, ◌<◌, true, List, [], ◌∷◌, ◌++◌, length, get_or, None, Some, Ok, Err, refl, ap, sym, ◌∙◌, subst, arith, append_assoc, append-nil, add_assoc, ◌⊎◌, zero-add, replicate}
use Rattle.cse_value.specs.Device.{FailsOnce, Given, IsAtEnd, IsUnfailing}
use Rattle.std.proofs.lemmas.List.Sums.{sum_by-append}
use Rattle.cse_value.specs.declared.shape.ItemShape.{ItemShape}
use Rattle.cse_value.specs.declared.shape.RecordShape.{RecordShape}
use Rattle.cse_office.specs.declared.fault.CompareFault.{CompareFault}
use Rattle.cse_office.specs.declared.fault.SeenFault.{SeenFault}
use Rattle.cse_office.specs.declared.fault.SeenFault.TheVariants.{Compare, Seen}
use Rattle.cse_office.specs.declared.fault.CompareFault.TheVariants.{Apart, Data, Memory, Out}
use Rattle.cse_dict.specs.Dictionary.{DictionaryText, shape_of}
use Rattle.cse_case.specs.declared.error.DataError.{DataError}
use Rattle.cse_case.specs.Line.{FileLine}
use Rattle.cse_case.specs.Columns.{LineText}
use Rattle.cse_case.specs.Run.{RunText}
use Rattle.cse_case.specs.Runs.{given_runs}
use Rattle.cse_case.specs.Reader.{Next, ReaderText, held_of, is_front}
use Rattle.cse_case.specs.Field.{item_at}
use Rattle.cse_office.specs.declared.count.Count.{Count}
use Rattle.cse_office.specs.Changes.{count_in, first_apart, no_count, plus}
use Rattle.cse_office.specs.Files.{AreCounts, ArePairs, HasReadFault, HasWrittenFault, Stops, StopsSeen, IfApart, IfSeenApart, IsApart, IsApartIn, IsCompared, IsRead, IsReadSoFar, RunPair, afters, apart_in, befores, lines_in, lines_of, total}
use Rattle.cse_office.proofs.FileLaws.{SoFar, SoFar-none, SoFar-run, as_many, gives, is_read, lines_now, run_lines, so_far, has_fault}

plus_assoc : (a b c : Count) → plus (plus a b) c ≡ plus a (plus b c)
plus_assoc a b c =
    ap (λ n. record { occurrences = n; changed = (a.changed + b.changed) + c.changed }) (add_assoc a.occurrences b.occurrences c.occurrences)
    ∙ ap (λ n. record { occurrences = a.occurrences + (b.occurrences + c.occurrences); changed = n }) (add_assoc a.changed b.changed c.changed)

plus_none : (a : Count) → plus a no_count ≡ plus no_count a
plus_none a =
    ap (λ n. record { occurrences = n; changed = a.changed + 0 }) (let e : a.occurrences + 0 ≡ 0 + a.occurrences = omega arith in e)
    ∙ ap (λ n. record { occurrences = 0 + a.occurrences; changed = n }) (let e : a.changed + 0 ≡ 0 + a.changed = omega arith in e)

total_more : (d : DictionaryText) (item : ItemShape) (pairs : List RunPair) (p : RunPair)
    → total d item (pairs ++ p ∷ []) ≡ plus (total d item pairs) (count_in (shape_of d).records item (lines_of d (p.0)) (lines_of d (p.1)))
total_more d item [] p = plus_none (count_in (shape_of d).records item (lines_of d (p.0)) (lines_of d (p.1)))
total_more d item (q ∷ qs) p =
    let first = count_in (shape_of d).records item (lines_of d (q.0)) (lines_of d (q.1)) in
    ap (λ n. plus first n) (total_more d item qs p) ∙ sym (plus_assoc first (total d item qs) (count_in (shape_of d).records item (lines_of d (p.0)) (lines_of d (p.1))))

pairs_more : (d : DictionaryText) (pairs : List RunPair) (p : RunPair) → ArePairs d pairs → apart_in d (p.0) (p.1) ≡ None → ArePairs d (pairs ++ p ∷ [])
pairs_more d [] p are e = (e, tt)
pairs_more d (q ∷ qs) p are e = (are.0, pairs_more d qs p (are.1) e)

befores_more : (pairs : List RunPair) (p : RunPair) → befores (pairs ++ p ∷ []) ≡ befores pairs ++ p.0 ∷ []
befores_more [] p = refl
befores_more (q ∷ qs) p = ap (λ l. q.0 ∷ l) (befores_more qs p)

afters_more : (pairs : List RunPair) (p : RunPair) → afters (pairs ++ p ∷ []) ≡ afters pairs ++ p.1 ∷ []
afters_more [] p = refl
afters_more (q ∷ qs) p = ap (λ l. q.1 ∷ l) (afters_more qs p)

lines_more : (pairs : List RunPair) (p : RunPair) → lines_in (pairs ++ p ∷ []) ≡ lines_in pairs + length (p.0)
lines_more pairs p = sum_by-append (λ q. length (q.0)) pairs (p ∷ []) ∙ ap (λ n. lines_in pairs + n) (zero-add (length (p.0)))

-- a file that was read to its end
pub whole : (d : DictionaryText) (before after : Given) (runs : List (List FileLine)) → IsRead d before after runs → IsReadSoFar d before after (runs ++ [])
whole d before after runs all = record { bytes = all.bytes; ended = true; reads = all.reads; end = λ e. all.end; unfailing = all.unfailing; runs_are = all.runs_are ∙ sym (append-nil runs) }

whole_ended : (d : DictionaryText) (before after : Given) (runs : List (List FileLine)) (all : IsRead d before after runs) → (whole d before after runs all).ended ≡ true
unfolding whole
whole_ended d before after runs all = refl

-- the runs were added to the counts
pub record IsAdded (records : List RecordShape) (items : List ItemShape) (before after : List LineText) (lines : ℕ) (old new : List Count) : Type 0 where
  pub pair : first_apart items 0 before after ≡ None
  pub len : length new ≡ length old
  pub each : (n : ℕ) → n < length items → get_or new n no_count ≡ plus (get_or old n no_count) (count_in records (item_at items n) before after)

-- what a fault says follows
pub if_apart : (d : DictionaryText) (before after before' after' : Given) (P : ℕ → Type 0) (fault : CompareFault) → ((line : ℕ) → P line → IsApart d before after before' after' line) → IfApart P fault
    → Stops d before after before' after' fault
if_apart d before after before' after' P (Data e) h p = absurd p
if_apart d before after before' after' P (Out e) h p = absurd p
if_apart d before after before' after' P (Apart line) h p = h line p
if_apart d before after before' after' P Memory h p = absurd p

-- so of one that is watched
pub if_seen_apart : {E : Type 0} (d : DictionaryText) (before after before' after' : Given) (P : ℕ → Type 0) (fault : SeenFault E) → ((line : ℕ) → P line → IsApart d before after before' after' line)
    → IfSeenApart P fault → StopsSeen d before after before' after' fault
if_seen_apart d before after before' after' P (Compare fault) h p = if_apart d before after before' after' P fault h p
if_seen_apart d before after before' after' P (Seen e) h p = tt

-- what a comparison knows between runs
pub record Comparing (d : DictionaryText) (before now : Given) (r : ReaderText) (before' now' : Given) (r' : ReaderText) (counts : List Count) (lines : ℕ) : Type 0 where
  pub pairs : List RunPair
  pub text : List ℕ
  pub text' : List ℕ
  pub read : SoFar before now d r text (befores pairs)
  pub written : SoFar before' now' d r' text' (afters pairs)
  pub are_pairs : ArePairs d pairs
  pub counts_are : AreCounts d pairs counts
  pub lines_are : lines ≡ r.lines
  pub lines_in_are : lines ≡ lines_in pairs

-- other counts that are the same ones
pub same_counts : (d : DictionaryText) (before after before' after' : Given) (counts counts' : List Count) → IsCompared d before after before' after' counts → length counts' ≡ length counts
    → ((n : ℕ) → n < length (shape_of d).items → get_or counts' n no_count ≡ get_or counts n no_count) → IsCompared d before after before' after' counts'
same_counts d before after before' after' counts counts' is len each = record {
  pairs = is.pairs;
  read = is.read;
  written = is.written;
  are_pairs = is.are_pairs;
  counts_are = record { as_many = len ∙ is.counts_are.as_many; each = λ n low. each n low ∙ is.counts_are.each n low };
}

none_of : (n k : ℕ) → get_or (replicate n no_count) k no_count ≡ no_count
none_of zero k = refl
none_of (suc n) zero = refl
none_of (suc n) (suc k) = none_of n k

-- nothing was read
pub Comparing-none : (d : DictionaryText) (now now' : Given) (r r' : ReaderText) (counts : List Count) → r.dictionary ≡ d → held_of r ≡ [] → r.reads ≡ 0 → r.lines ≡ 0 → r'.dictionary ≡ d → held_of r' ≡ [] → r'.reads ≡ 0 → r'.lines ≡ 0
    → counts ≡ replicate (length (shape_of d).items) no_count → length counts ≡ length (shape_of d).items → Comparing d now now r now' now' r' counts 0
Comparing-none d now now' r r' counts same none unread front same' none' unread' front' are len =
    let each : (n : ℕ) → get_or counts n no_count ≡ no_count = λ n. ap (λ l. get_or l n no_count) are ∙ none_of (length (shape_of d).items) n in
    record {
      pairs = [];
      text = [];
      text' = [];
      read = SoFar-none now d r same none unread front;
      written = SoFar-none now' d r' same' none' unread' front';
      are_pairs = tt;
      counts_are = record { as_many = len; each = λ n low. each n };
      lines_are = sym front;
      lines_in_are = refl;
    }

module _ (d : DictionaryText) (before now after before' now' after' : Given) (r s r' s' : ReaderText) (counts : List Count) (lines : ℕ) (c : Comparing d before now r before' now' r' counts lines) where
  -- both were read to their ends
  pub compared : Next now after r s (Ok None) → Next now' after' r' s' (Ok None) → IsUnfailing now after → IsUnfailing now' after' → IsCompared d before after before' after' counts
  compared n n' works works' = record {
    pairs = c.pairs;
    read = is_read before now after d r s c.text (befores c.pairs) c.read n works;
    written = is_read before' now' after' d r' s' c.text' (afters c.pairs) c.written n' works';
    are_pairs = c.are_pairs;
    counts_are = c.counts_are;
  }

  module _ (run run' : RunText) (n : Next now after r s (Ok (Some run))) (n' : Next now' after' r' s' (Ok (Some run'))) where
    abbrev first : List FileLine
    first = (gives before now after d r s c.text (befores c.pairs) c.read run n).lines

    abbrev second : List FileLine
    second = (gives before' now' after' d r' s' c.text' (afters c.pairs) c.written run' n').lines

    first_lines : run.lines ≡ lines_of d first
    first_lines = run_lines before now after d r s c.text (befores c.pairs) c.read run n

    second_lines : run'.lines ≡ lines_of d second
    second_lines = run_lines before' now' after' d r' s' c.text' (afters c.pairs) c.written run' n'

    first_len : length run.lines ≡ length first
    first_len = as_many before now after d r s c.text (befores c.pairs) c.read run n

    same_apart : (items : List ItemShape) → first_apart items 0 run.lines run'.lines ≡ first_apart items 0 (lines_of d first) (lines_of d second)
    same_apart items = ap (λ l. first_apart items 0 l run'.lines) first_lines ∙ ap (λ l. first_apart items 0 (lines_of d first) l) second_lines

    -- a run more of both
    pub Comparing-more : (new : List Count) → IsUnfailing now after → IsUnfailing now' after' → IsAdded (shape_of d).records (shape_of d).items run.lines run'.lines lines counts new → Comparing d before after s before' after' s' new (lines + length run.lines)
    Comparing-more new works works' a =
        let p : RunPair = (first, second) in
        record {
          pairs = c.pairs ++ p ∷ [];
          text = _;
          text' = _;
          read = subst (SoFar before after d s _) (sym (befores_more c.pairs p)) (SoFar-run before now after d r s c.text (befores c.pairs) c.read run n works);
          written = subst (SoFar before' after' d s' _) (sym (afters_more c.pairs p)) (SoFar-run before' now' after' d r' s' c.text' (afters c.pairs) c.written run' n' works');
          are_pairs = pairs_more d c.pairs p c.are_pairs (sym (same_apart (shape_of d).items) ∙ a.pair);
          counts_are = record {
            as_many = a.len ∙ c.counts_are.as_many;
            each = λ k low.
                let item = item_at (shape_of d).items k in
                a.each k low ∙ (ap (λ l. plus l (count_in (shape_of d).records item run.lines run'.lines)) (c.counts_are.each k low)
                ∙ (ap (λ l. plus (total d item c.pairs) (count_in (shape_of d).records item l run'.lines)) first_lines
                ∙ (ap (λ l. plus (total d item c.pairs) (count_in (shape_of d).records item (lines_of d first) l)) second_lines ∙ sym (total_more d item c.pairs p))));
          };
          lines_are = omega (arith, c.lines_are, first_len, lines_now before now after d r s c.text (befores c.pairs) c.read run n);
          lines_in_are = omega (arith, c.lines_in_are, first_len, lines_more c.pairs p);
        }

    -- the next runs are apart
    pub apart_here : IsUnfailing now after → IsUnfailing now' after' → (s.ended ≡ true → IsAtEnd after) → (s'.ended ≡ true → IsAtEnd after') → (line : ℕ) → IsApartIn (shape_of d).items run.lines run'.lines lines line → IsApart d before after before' after' line
    apart_here works works' end end' line apart = record {
      pairs = c.pairs;
      are_pairs = c.are_pairs;
      more = first ∷ given_runs d (is_front s) s.ended (held_of s);
      more' = second ∷ given_runs d (is_front s') s'.ended (held_of s');
      read = subst (IsReadSoFar d before after) (append_assoc (befores c.pairs) (first ∷ []) (given_runs d (is_front s) s.ended (held_of s)))
          (so_far before after d s _ (befores c.pairs ++ first ∷ []) (SoFar-run before now after d r s c.text (befores c.pairs) c.read run n works) end);
      written = subst (IsReadSoFar d before' after') (append_assoc (afters c.pairs) (second ∷ []) (given_runs d (is_front s') s'.ended (held_of s')))
          (so_far before' after' d s' _ (afters c.pairs ++ second ∷ []) (SoFar-run before' now' after' d r' s' c.text' (afters c.pairs) c.written run' n' works') end');
      read_ended = λ e. absurd (omega (arith, ap length e));
      written_ended = λ e. absurd (omega (arith, ap length e));
      place = apart.place;
      apart = sym (same_apart (shape_of d).items) ∙ apart.apart;
      line_is = omega (arith, apart.line_is, c.lines_in_are);
    }

  -- the one that was read has ended, and the other one has a run more
  pub ended_first : (run : RunText) → Next now after r s (Ok None) → (n' : Next now' after' r' s' (Ok (Some run))) → IsUnfailing now after → IsUnfailing now' after' → (s'.ended ≡ true → IsAtEnd after') → IsApart d before after before' after' (lines + 1)
  ended_first run n n' works works' end' =
      let all = is_read before now after d r s c.text (befores c.pairs) c.read n works in
      let next = (gives before' now' after' d r' s' c.text' (afters c.pairs) c.written run n').lines in
      let later = given_runs d (is_front s') s'.ended (held_of s') in
      record {
        pairs = c.pairs;
        are_pairs = c.are_pairs;
        more = [];
        more' = next ∷ later;
        read = whole d before after (befores c.pairs) all;
        written = subst (IsReadSoFar d before' after') (append_assoc (afters c.pairs) (next ∷ []) later)
            (so_far before' after' d s' _ (afters c.pairs ++ next ∷ []) (SoFar-run before' now' after' d r' s' c.text' (afters c.pairs) c.written run n' works') end');
        read_ended = λ e. whole_ended d before after (befores c.pairs) all;
        written_ended = λ e. absurd (omega (arith, ap length e));
        place = 0;
        apart = refl;
        line_is = omega (arith, c.lines_in_are);
      }

  -- and the other way round
  pub ended_second : (run : RunText) → (n : Next now after r s (Ok (Some run))) → Next now' after' r' s' (Ok None) → IsUnfailing now after → IsUnfailing now' after' → (s.ended ≡ true → IsAtEnd after) → IsApart d before after before' after' (lines + 1)
  ended_second run n n' works works' end =
      let all = is_read before' now' after' d r' s' c.text' (afters c.pairs) c.written n' works' in
      let next = (gives before now after d r s c.text (befores c.pairs) c.read run n).lines in
      let later = given_runs d (is_front s) s.ended (held_of s) in
      record {
        pairs = c.pairs;
        are_pairs = c.are_pairs;
        more = next ∷ later;
        more' = [];
        read = subst (IsReadSoFar d before after) (append_assoc (befores c.pairs) (next ∷ []) later)
            (so_far before after d s _ (befores c.pairs ++ next ∷ []) (SoFar-run before now after d r s c.text (befores c.pairs) c.read run n works) end);
        written = whole d before' after' (afters c.pairs) all;
        read_ended = λ e. absurd (omega (arith, ap length e));
        written_ended = λ e. whole_ended d before' after' (afters c.pairs) all;
        place = 0;
        apart = refl;
        line_is = omega (arith, c.lines_in_are);
      }

  -- a file has a fault: the one that was read
  pub stops_read : (error : DataError) → Next now after r s (Err error) → (s.ended ≡ true → IsAtEnd after) → (error.number ≡ 70 → FailsOnce now after ⊎ (s.reads ≡ 2 ^ 40))
      → (error.number ≢ 70 → IsUnfailing now after) → (r'.ended ≡ true → IsAtEnd now') → HasReadFault d before after before' now' error
  stops_read error n end reading sound end' = record {
    pairs = c.pairs;
    are_pairs = c.are_pairs;
    more = given_runs d (is_front r') r'.ended (held_of r');
    read = has_fault before now after d r s c.text (befores c.pairs) c.read error n end reading sound;
    written = so_far before' now' d r' c.text' (afters c.pairs) c.written end';
  }

  -- the one that was written, when the other has ended
  pub stops_ended : (error : DataError) → Next now after r s (Ok None) → Next now' after' r' s' (Err error) → IsUnfailing now after → (s'.ended ≡ true → IsAtEnd after')
      → (error.number ≡ 70 → FailsOnce now' after' ⊎ (s'.reads ≡ 2 ^ 40)) → (error.number ≢ 70 → IsUnfailing now' after') → HasWrittenFault d before after before' after' error
  stops_ended error n n' works end' reading sound = record {
    pairs = c.pairs;
    are_pairs = c.are_pairs;
    more = [];
    read = whole d before after (befores c.pairs) (is_read before now after d r s c.text (befores c.pairs) c.read n works);
    written = has_fault before' now' after' d r' s' c.text' (afters c.pairs) c.written error n' end' reading sound;
  }

  -- and when the other gives a run
  pub stops_written : (run : RunText) (error : DataError) → (n : Next now after r s (Ok (Some run))) → Next now' after' r' s' (Err error) → IsUnfailing now after
      → (s.ended ≡ true → IsAtEnd after) → (s'.ended ≡ true → IsAtEnd after') → (error.number ≡ 70 → FailsOnce now' after' ⊎ (s'.reads ≡ 2 ^ 40))
      → (error.number ≢ 70 → IsUnfailing now' after') → HasWrittenFault d before after before' after' error
  stops_written run error n n' works end end' reading sound =
      let next = (gives before now after d r s c.text (befores c.pairs) c.read run n).lines in
      let later = given_runs d (is_front s) s.ended (held_of s) in
      record {
        pairs = c.pairs;
        are_pairs = c.are_pairs;
        more = next ∷ later;
        read = subst (IsReadSoFar d before after) (append_assoc (befores c.pairs) (next ∷ []) later)
            (so_far before after d s _ (befores c.pairs ++ next ∷ []) (SoFar-run before now after d r s c.text (befores c.pairs) c.read run n works) end);
        written = has_fault before' now' after' d r' s' c.text' (afters c.pairs) c.written error n' end' reading sound;
      }
