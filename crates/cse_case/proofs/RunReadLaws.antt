-- What a call of the reader knows while it reads.
use Rattle.std.proofs.Common.{◌≡◌, ℕ, ◌+◌, ◌*◌, ◌^◌, ◌<◌, ◌≤◌, Bool, true, false, eqb, List, [], ◌∷◌, ◌++◌, length, take, refl, ap, sym, ◌∙◌, subst, arith, Some, None, Ok, Err, Option, Result, add-zero, append_assoc, append-nil, length-append, inl, inr}
use Rattle.cse_value.proofs.ReadLaws.{Consumes-kept, Consumes-nil, Consumes-trans, Keeps-refl}
use Rattle.std.proofs.lemmas.Bool.{eqb-true, false≢true, false_from_ne_true}
use Rattle.std.proofs.lemmas.List.{length-map, nil_from_length, take_at}
use Rattle.cse_value.specs.Device.{Consumes, IsAtEnd, IsUnfailing, Keeps, Given}
use Rattle.cse_case.specs.declared.decode.LineStop.{LineStop}
use Rattle.cse_case.specs.declared.decode.LineStop.TheVariants.{Memory, Fault}
use Rattle.cse_dict.specs.Dictionary.{DictionaryText}
use Rattle.cse_case.specs.declared.error.DataError.{DataError}
use Rattle.cse_case.specs.Line.{FileLine, lines_in}
use Rattle.cse_case.specs.Columns.{line_text}
use Rattle.cse_case.specs.Cutting.{HasNoFeed}
use Rattle.cse_case.specs.Decoding.{IfFault}
use Rattle.cse_case.specs.RunReading.{ReadsMore}
use Rattle.cse_case.specs.Run.{RunText, run_text, written_run}
use Rattle.cse_case.specs.Runs.{MayFollow, fault_in, first_fault, given_runs, given_of, later_by}
use Rattle.cse_case.specs.Reader.{GivesRun, IsError, NeedsMore, Next, ReaderText, given_lines, held_of, is_front}
use Rattle.cse_case.specs.Gathering.{Gathered, IsRunOf, bytes_of, first_id, front_after}
use Rattle.cse_case.specs.Refusing.{IsReadError, IsRefusal}
use Rattle.cse_case.specs.Resting.{GivesRest, HasNoRest, IsResting, TakesRest, reader_of}
use Rattle.cse_case.specs.Taking.{GathersAll, GivesFirst, RefusesAt}
use Rattle.cse_case.proofs.GatherLaws.{are_sound, held_bytes, length-done}
use Rattle.cse_case.proofs.RunLaws.{first_fault-none, first_fault-run, given_of-last, given_of-nil, given_of-open}
use Rattle.cse_case.proofs.LineLaws.{lines_in-nil}

pub record HasRead (before now : Given) (old : ReaderText) (run : RunText) (uncut : List ℕ) (ended : Bool) (reads : ℕ) : Type 0 where
  pub taken : List ℕ
  pub consumes : Consumes before now taken
  pub held : written_run run ++ uncut ≡ held_of old ++ taken
  pub gathered : Gathered old.dictionary (is_front old) ended run.first_line run uncut
  pub number : run.first_line ≡ old.lines + 1
  pub end : ended ≡ true → IsAtEnd now
  pub sound : IsUnfailing before now
  pub stays : old.ended ≡ true → (taken ≡ []) × (ended ≡ true)
  pub rises : old.reads ≤ reads
  pub counted : reads ≤ old.reads + length taken
  pub few_reads : reads ≤ 2 ^ 40
  pub few_lines : old.lines + (length run.lines + length uncut) ≤ reads * 65536
  pub near : ℕ
  pub near_fits : near ≤ length uncut
  pub near_open : HasNoFeed (take near uncut)
  pub near_all : length uncut ≤ near + 65536

no_bytes : HasNoFeed []
no_bytes k l = absurd (omega arith)

pub HasRead-none : (before : Given) (old : ReaderText) → IsResting old → (old.ended ≡ true → IsAtEnd before)
    → HasRead before before old old.run old.uncut old.ended old.reads
HasRead-none before old r end = record {
  taken = [];
  consumes = Consumes-nil before;
  held = sym (append-nil (held_of old));
  gathered = r.gathered;
  number = r.number;
  end = end;
  sound = refl;
  stays = λ e. (refl, e);
  rises = omega arith;
  counted = omega arith;
  few_reads = r.few_reads;
  few_lines = r.few_lines;
  near = 0;
  near_fits = omega arith;
  near_open = no_bytes;
  near_all = omega (arith, r.bytes);
}

-- more bytes may come where the end wasn't read
Gathered-more : (d : DictionaryText) (front later : Bool) (number : ℕ) (run : RunText) (uncut taken uncut' : List ℕ) → Gathered d front false number run uncut → uncut' ≡ uncut ++ taken
    → Gathered d front later number run uncut'
Gathered-more d front ended number run uncut taken uncut' g e = record {
  done = g.done;
  is = g.is;
  same = g.same;
  few = g.few;
  stands = g.stands;
  lines = λ later more may.
      let more_bytes : uncut' ++ more ≡ uncut ++ (taken ++ more) = ap (λ x. x ++ more) e ∙ append_assoc uncut taken more in
      ap (λ x. lines_in front later (bytes_of g.done ++ x)) more_bytes ∙ g.lines later (taken ++ more) (λ f. absurd (false≢true f))
      ∙ ap (λ x. g.done ++ lines_in (front_after front g.done) later x) (sym more_bytes);
}

-- all lines were cut, and one read more was made
pub HasRead-more : (before now after : Given) (old : ReaderText) (run new : RunText) (uncut rest rest' : List ℕ) (ended ended' : Bool) (reads reads' n : ℕ)
    → HasRead before now old run uncut ended reads → ended ≡ false → GathersAll old.dictionary (is_front old) ended run uncut new rest
    → ReadsMore now after rest rest' n → IsUnfailing now after → (ended' ≡ true → IsAtEnd after)
    → reads ≤ reads' → reads' ≤ 2 ^ 40 → reads' ≤ reads + n → (old.lines + (length run.lines + length uncut) ≤ reads * 65536 → old.lines + (length run.lines + length uncut) + n ≤ reads' * 65536)
    → HasRead before after old new rest' ended' reads'
HasRead-more before now after old run new uncut rest rest' ended ended' reads reads' n h open' a m sound end up few counted room =
    let len : length rest' ≡ length rest + n = ap length m.grows ∙ length-append rest m.taken ∙ ap (λ k. length rest + k) m.count in
    let g : Gathered old.dictionary (is_front old) false new.first_line new rest = subst (λ e. Gathered old.dictionary (is_front old) e new.first_line new rest) open' a.gathers.gathered in
    record {
      taken = h.taken ++ m.taken;
      consumes = Consumes-trans before now after h.taken m.taken h.consumes m.consumes;
      held = ap (λ x. written_run new ++ x) m.grows ∙ sym (append_assoc (written_run new) rest m.taken) ∙ ap (λ x. x ++ m.taken) (a.gathers.held ∙ h.held)
          ∙ append_assoc (held_of old) h.taken m.taken;
      gathered = Gathered-more old.dictionary (is_front old) ended' new.first_line new rest m.taken rest' g m.grows;
      number = a.gathers.first_line ∙ h.number;
      end = end;
      sound = sound ∙ h.sound;
      stays = λ e. absurd (false≢true (sym open' ∙ (h.stays e).1));
      rises = omega (arith, h.rises);
      counted = omega (arith, h.counted, counted, m.count, length-append h.taken m.taken);
      few_reads = few;
      few_lines = omega (arith, room h.few_lines, len, a.gathers.fewer);
      near = length rest;
      near_fits = omega (arith, len);
      near_open = subst HasNoFeed (sym (ap (take (length rest)) m.grows ∙ take_at rest m.taken (length rest) refl)) a.unended;
      near_all = omega (arith, len, m.most);
    }

not_zero : (n : ℕ) → 0 < n → eqb n 0 ≡ false
not_zero n h = false_from_ne_true (eqb n 0) (λ e. let z : n ≡ 0 = eqb-true n 0 e in absurd (omega arith))

module _ (before now : Given) (old : ReaderText) (run : RunText) (uncut : List ℕ) (ended : Bool) (reads : ℕ)
    (h : HasRead before now old run uncut ended reads) where
  -- the run is given before a line of another id
  pub Next-given : (new given' : RunText) (rest : List ℕ) → GivesFirst old.dictionary (is_front old) ended run uncut new rest given'
      → Next before now old (reader_of old.dictionary new rest ended reads (old.lines + length given'.lines)) (Ok (Some given'))
  Next-given new given' rest f = record {
    taken = h.taken;
    consumes = h.consumes;
    rises = h.rises;
    counted = h.counted;
    stays = h.stays;
    dictionary = refl;
    lines = refl;
    answers =
        subst (λ n. GivesRun old.dictionary (held_of old ++ h.taken) (written_run new ++ rest) (is_front old) ended n given') h.number
        (subst (λ b. GivesRun old.dictionary b (written_run new ++ rest) (is_front old) ended run.first_line given') h.held f.gives);
  }

  pub IsResting-given : (new given' : RunText) (rest : List ℕ) → GivesFirst old.dictionary (is_front old) ended run uncut new rest given'
      → IsResting (reader_of old.dictionary new rest ended reads (old.lines + length given'.lines))
  IsResting-given new given' rest f =
      let some : 0 < length given'.lines = omega (arith, ap (λ x. length x.lines) f.gives.is, length-map f.gives.lines (line_text old.dictionary), f.gives.some) in
      let inside : false ≡ eqb (old.lines + length given'.lines) 0 = sym (not_zero (old.lines + length given'.lines) (omega arith)) in
      record {
        gathered = subst (λ b. Gathered old.dictionary b ended new.first_line new rest) inside f.gathered;
        number = omega (arith, f.first_line, h.number);
        one = omega (arith, f.one);
        bytes = omega (arith, f.past h.near h.near_fits h.near_open, h.near_all);
        few_reads = h.few_reads;
        few_lines = omega (arith, f.fewer, h.few_lines);
      }

  -- an error
  pub Next-error : (new : RunText) (rest : List ℕ) (ended' : Bool) (error : DataError) → ended' ≡ ended → IsError old.dictionary (held_of old ++ h.taken) (is_front old) ended old.lines error
      → Next before now old (reader_of old.dictionary new rest ended' reads (old.lines + 0)) (Err error)
  Next-error new rest ended' error e is = record {
    taken = h.taken;
    consumes = h.consumes;
    rises = h.rises;
    counted = h.counted;
    stays = λ was. let s = h.stays was in (s.0, e ∙ s.1);
    dictionary = refl;
    lines = refl;
    answers = subst (λ b. IsError old.dictionary (held_of old ++ h.taken) (is_front old) b old.lines error) (sym e) is;
  }

  -- the fault of a line
  pub IsError-fault : (new : RunText) (error : DataError) → RefusesAt old.dictionary (is_front old) ended run uncut new error.number → error.line ≡ old.lines + length new.lines + 1
      → IsError old.dictionary (held_of old ++ h.taken) (is_front old) ended old.lines error
  IsError-fault new error f line = record {
    faulty = λ low. record {
      place = length new.lines;
      fault = ap (fault_in old.dictionary (is_front old) ended) (sym h.held) ∙ f.fault;
      line = line;
      none = ap (given_runs old.dictionary (is_front old) ended) (sym h.held) ∙ f.none;
    };
    needed = λ e. absurd (omega (arith, f.low));
    number = λ high. absurd (omega (arith, f.low));
    line = λ high. absurd (omega (arith, f.low));
  }

-- at the end of the file
last : (d : DictionaryText) (later : Bool) (id : List ℕ) (done : List FileLine) → IsRunOf d id 0 done → 0 < length done → later ≡ true → given_of d later done ≡ done ∷ []
last d later id [] run some end = absurd (omega arith)
last d later id (l ∷ ls) run some end = ap (λ b. given_of d b (l ∷ ls)) end ∙ given_of-last d id l ls run

fault_last : (d : DictionaryText) (later front inside : Bool) (id : List ℕ) (done : List FileLine) (all back : List ℕ) → IsRunOf d id 0 done → lines_in front later all ≡ done
    → lines_in inside later back ≡ [] → fault_in d front later all ≡ later_by (length done) (fault_in d inside later back)
unfolding fault_in
fault_last d later front inside id done all back run a b =
    ap (first_fault d [] 0) (a ∙ sym (append-nil done)) ∙ first_fault-run d id done [] run tt ∙ ap (λ x. later_by (length done) (first_fault d [] 0 x)) (sym b)

GivesRun-last : (d : DictionaryText) (front ended : Bool) (number : ℕ) (run : RunText) (uncut held : List ℕ) (g : Gathered d front ended number run uncut)
    → ended ≡ true → 0 < length run.lines → uncut ≡ [] → held ≡ [] → GivesRun d (written_run run ++ uncut) held front ended number run
GivesRun-last d front ended number run uncut held g end some empty no_held =
    let own = held_bytes d front ended number run uncut g in
    let id = first_id d g.done in
    let some' : 0 < length g.done = omega (arith, length-done d front ended number run uncut g) in
    let nothing : (f later : Bool) (bytes more : List ℕ) → bytes ≡ [] → MayFollow ended later more → lines_in f later (bytes ++ more) ≡ [] =
    λ f later bytes more e may. ap (λ x. lines_in f later (x ++ more)) e ∙ ap (lines_in f later) ((may end).1) ∙ lines_in-nil f later in
    let cut : (later : Bool) (more : List ℕ) → MayFollow ended later more → lines_in front later ((written_run run ++ uncut) ++ more) ≡ g.done =
    λ later more may. ap (λ x. lines_in front later ((x ++ uncut) ++ more)) own ∙ ap (lines_in front later) (append_assoc (bytes_of g.done) uncut more)
    ∙ g.lines later more may ∙ ap (λ x. g.done ++ x) (nothing (front_after front g.done) later uncut more empty may) ∙ append-nil g.done in
    record {
      lines = g.done;
      some = some';
      sound = are_sound d id 0 g.done g.same;
      is = g.is;
      written = own;
      whole = ap (λ x. written_run run ++ x) (empty ∙ sym no_held);
      first = λ later more may. ap (given_of d later) (cut later more may) ∙ last d later id g.done g.same some' ((may end).0)
          ∙ ap (λ x. g.done ∷ x) (sym (ap (given_of d later) (nothing false later held more no_held may) ∙ given_of-nil d later));
      fault = λ later more may. fault_last d later front false id g.done _ _ g.same (cut later more may) (nothing false later held more no_held may);
    }

pub empty_run : (d : DictionaryText) (run : RunText) → run.lines ≡ [] → run.marked ≡ false → run ≡ run_text d run.first_line []
empty_run d run l m =
    ap (λ ls. (let r : RunText = record { lines = ls; marked = run.marked; first_line = run.first_line } in r)) l
    ∙ ap (λ b. (let r : RunText = record { lines = []; marked = b; first_line = run.first_line } in r)) m

-- a reader that holds nothing
pub Gathered-empty : (d : DictionaryText) (front ended : Bool) (run : RunText) (uncut : List ℕ) → run.lines ≡ [] → run.marked ≡ false → Gathered d front ended run.first_line run uncut
Gathered-empty d front ended run uncut l m =
    record { done = []; is = empty_run d run l m; same = tt; few = omega arith; stands = tt; lines = λ later more may. refl }

no_lines : (d : DictionaryText) (front ended : Bool) (number : ℕ) (run : RunText) (uncut : List ℕ) → Gathered d front ended number run uncut → run.lines ≡ [] → written_run run ≡ []
no_lines d front ended number run uncut g l =
    let none : g.done ≡ [] = nil_from_length g.done (sym (length-done d front ended number run uncut g) ∙ ap length l) in
    held_bytes d front ended number run uncut g ∙ ap bytes_of none

written_empty : (d : DictionaryText) (run : RunText) → run.lines ≡ [] → run.marked ≡ false → written_run run ≡ []
written_empty d run l m = ap written_run (empty_run d run l m)

module _ (before now : Given) (old : ReaderText) (run : RunText) (uncut : List ℕ) (ended : Bool) (reads : ℕ)
    (h : HasRead before now old run uncut ended reads) (end : ended ≡ true) (new : RunText) (rest : List ℕ)
    (a : GathersAll old.dictionary (is_front old) ended run uncut new rest) where
  -- the last run
  pub Next-rest : (left given' : RunText) → GivesRest new left given'
      → Next before now old (reader_of old.dictionary left rest ended reads (old.lines + length given'.lines)) (Ok (Some given'))
  Next-rest left given' r =
      let no_held : written_run left ++ rest ≡ [] = ap (λ x. x ++ rest) (written_empty old.dictionary left r.lines r.marked) ∙ a.all end in
      let gives = GivesRun-last old.dictionary (is_front old) ended new.first_line new rest (written_run left ++ rest) a.gathers.gathered end r.some (a.all end) no_held in
      record {
        taken = h.taken;
        consumes = h.consumes;
        rises = h.rises;
        counted = h.counted;
        stays = h.stays;
        dictionary = refl;
        lines = refl;
        answers = subst (GivesRun old.dictionary (held_of old ++ h.taken) (written_run left ++ rest) (is_front old) ended (old.lines + 1)) (sym r.is)
            (subst (λ n. GivesRun old.dictionary (held_of old ++ h.taken) (written_run left ++ rest) (is_front old) ended n new) (a.gathers.first_line ∙ h.number)
            (subst (λ b. GivesRun old.dictionary b (written_run left ++ rest) (is_front old) ended new.first_line new) (a.gathers.held ∙ h.held) gives));
      }

  pub IsResting-rest : (left given' : RunText) → GivesRest new left given' → IsResting (reader_of old.dictionary left rest ended reads (old.lines + length given'.lines))
  IsResting-rest left given' r =
      let none : length rest ≡ 0 = ap length (a.all end) in
      let no_line : length left.lines ≡ 0 = ap length r.lines in
      record {
        gathered = Gathered-empty old.dictionary (eqb (old.lines + length given'.lines) 0) ended left rest r.lines r.marked;
        number = omega (arith, r.first_line, a.gathers.first_line, h.number, ap (λ x. length x.lines) r.is);
        one = omega arith;
        bytes = omega arith;
        few_reads = h.few_reads;
        few_lines = omega (arith, a.gathers.fewer, h.few_lines, ap (λ x. length x.lines) r.is);
      }

  -- no run is left
  pub Next-none : (left : RunText) → HasNoRest new left → Next before now old (reader_of old.dictionary left rest ended reads (old.lines + 0)) (Ok None)
  Next-none left r =
      let nothing : written_run new ++ rest ≡ [] =
      ap (λ x. x ++ rest) (no_lines old.dictionary (is_front old) ended new.first_line new rest a.gathers.gathered r.lines) ∙ a.all end in
      record {
        taken = h.taken;
        consumes = h.consumes;
        rises = h.rises;
        counted = h.counted;
        stays = h.stays;
        dictionary = refl;
        lines = refl;
        answers = record {
          none = sym (a.gathers.held ∙ h.held) ∙ nothing;
          none_held = ap (λ x. written_run x ++ rest) r.is ∙ nothing;
          read = end;
          end = h.end end;
        };
      }

  pub IsResting-none : (left : RunText) → HasNoRest new left → IsResting (reader_of old.dictionary left rest ended reads (old.lines + 0))
  IsResting-none left r =
      let none : length rest ≡ 0 = ap length (a.all end) in
      let no_line : length new.lines ≡ 0 = ap length r.lines in
      let here : IsResting (reader_of old.dictionary new rest ended reads old.lines) = record {
        gathered = a.gathers.gathered;
        number = a.gathers.first_line ∙ h.number;
        one = omega arith;
        bytes = omega arith;
        few_reads = h.few_reads;
        few_lines = omega (arith, a.gathers.fewer, h.few_lines);
      } in
      subst (λ n. IsResting (reader_of old.dictionary left rest ended reads n)) (sym (add-zero old.lines))
      (subst (λ x. IsResting (reader_of old.dictionary x rest ended reads old.lines)) (sym r.is) here)

-- a call that ends in want of memory
IsError-memory : (d : DictionaryText) (bytes : List ℕ) (front ended : Bool) (before : ℕ) (error : DataError) → error.number ≡ 90 → error.line ≡ 0
    → IsError d bytes front ended before error
IsError-memory d bytes front ended before error n l =
    record { faulty = λ low. absurd (omega arith); needed = λ e. absurd (omega arith); number = λ high. inr n; line = λ high. l }

-- and one that ends where no more is read
IsError-needed : (d : DictionaryText) (bytes : List ℕ) (front ended : Bool) (before : ℕ) (error : DataError) → NeedsMore d bytes front ended → error.number ≡ 70 → error.line ≡ 0
    → IsError d bytes front ended before error
IsError-needed d bytes front ended before error needs n l =
    record { faulty = λ low. absurd (omega arith); needed = λ e. needs; number = λ high. inl n; line = λ high. l }

-- the device gave nothing more
HasRead-kept : (before now after : Given) (old : ReaderText) (run : RunText) (uncut : List ℕ) (ended : Bool) (reads : ℕ)
    → (h : HasRead before now old run uncut ended reads) → Keeps now after → (new : RunText) (rest : List ℕ) (error : DataError)
    → IsError old.dictionary (held_of old ++ h.taken) (is_front old) ended old.lines error
    → Next before after old (reader_of old.dictionary new rest ended reads (old.lines + 0)) (Err error)
HasRead-kept before now after old run uncut ended reads h k new rest error is = record {
  taken = h.taken;
  consumes = Consumes-kept before now after h.taken h.consumes k;
  rises = h.rises;
  counted = h.counted;
  stays = h.stays;
  dictionary = refl;
  lines = refl;
  answers = is;
}

-- memory lacked
pub HasRead-memory : (before now after : Given) (old : ReaderText) (run : RunText) (uncut : List ℕ) (ended : Bool) (reads : ℕ)
    → HasRead before now old run uncut ended reads → Keeps now after → (new : RunText) (rest : List ℕ) (error : DataError) → error.number ≡ 90 → error.line ≡ 0
    → Next before after old (reader_of old.dictionary new rest ended reads (old.lines + 0)) (Err error)
HasRead-memory before now after old run uncut ended reads h k new rest error n l =
    HasRead-kept before now after old run uncut ended reads h k new rest error (IsError-memory old.dictionary (held_of old ++ h.taken) (is_front old) ended old.lines error n l)

-- a line isn't taken
pub Next-refused : (before now : Given) (old : ReaderText) (run : RunText) (uncut : List ℕ) (ended : Bool) (reads : ℕ)
    → HasRead before now old run uncut ended reads → (new : RunText) (rest : List ℕ) (n : ℕ) (stop : LineStop) (error : DataError)
    → IfFault (RefusesAt old.dictionary (is_front old) ended run uncut new) stop → n ≡ length new.lines → IsRefusal old.lines n stop error
    → Next before now old (reader_of old.dictionary new rest ended reads (old.lines + 0)) (Err error)
Next-refused before now old run uncut ended reads h new rest n Memory error f e r =
    HasRead-memory before now now old run uncut ended reads h (Keeps-refl now) new rest error r.0 r.1
Next-refused before now old run uncut ended reads h new rest n (Fault number) error f e r =
    let fault = subst (RefusesAt old.dictionary (is_front old) ended run uncut new) (sym r.0) f in
    Next-error before now old run uncut ended reads h new rest ended error refl
    (IsError-fault before now old run uncut ended reads h new error fault (r.1 ∙ ap (λ k. old.lines + k + 1) e))

-- and no read failed
pub refused_low : (d : DictionaryText) (front ended : Bool) (run : RunText) (uncut : List ℕ) (new : RunText) (lines n : ℕ) (stop : LineStop) (error : DataError)
    → IfFault (RefusesAt d front ended run uncut new) stop → IsRefusal lines n stop error → error.number ≡ 70 → ⊥
refused_low d front ended run uncut new lines n Memory error f r e = omega (arith, r.0)
refused_low d front ended run uncut new lines n (Fault number) error f r e = omega (arith, r.0, f.low)

module _ (before now : Given) (old : ReaderText) (run : RunText) (uncut : List ℕ) (ended : Bool) (reads : ℕ)
    (h : HasRead before now old run uncut ended reads) (open' : ended ≡ false) (new : RunText) (rest : List ℕ)
    (a : GathersAll old.dictionary (is_front old) ended run uncut new rest) where
  -- all lines that are there go on one run, which may go on
  needs_more : NeedsMore old.dictionary (held_of old ++ h.taken) (is_front old) ended
  unfolding fault_in
  needs_more =
      let d = old.dictionary in
      let front = is_front old in
      let g = a.gathers.gathered in
      let bytes : held_of old ++ h.taken ≡ bytes_of g.done ++ (rest ++ []) =
      sym (a.gathers.held ∙ h.held) ∙ ap (λ x. x ++ rest) (held_bytes d front ended new.first_line new rest g) ∙ ap (λ x. bytes_of g.done ++ x) (sym (append-nil rest)) in
      let lines : lines_in front ended (held_of old ++ h.taken) ≡ g.done =
      ap (lines_in front ended) bytes ∙ g.lines ended [] (λ e. (e, refl)) ∙ ap (λ x. g.done ++ lines_in (front_after front g.done) ended x) (append-nil rest)
      ∙ ap (λ x. g.done ++ x) a.none ∙ append-nil g.done in
      record {
        unended = open';
        none = ap (given_of d ended) lines ∙ ap (λ b. given_of d b g.done) open' ∙ given_of-open d (first_id d g.done) g.done g.same;
        sound = ap (first_fault d [] 0) lines ∙ first_fault-none d (first_id d g.done) g.done g.same;
      }

  -- no more could be read where a read was needed
  pub HasRead-needed : (after : Given) → Keeps now after → (new' : RunText) (rest' : List ℕ) (error : DataError) → error.number ≡ 70 → error.line ≡ 0
      → Next before after old (reader_of old.dictionary new' rest' ended reads (old.lines + 0)) (Err error)
  HasRead-needed after k new' rest' error n l =
      HasRead-kept before now after old run uncut ended reads h k new' rest' error
      (IsError-needed old.dictionary (held_of old ++ h.taken) (is_front old) ended old.lines error needs_more n l)

  -- the read that was needed gave nothing
  pub Next-unread : (after : Given) (error : DataError) → IsReadError now after reads error → (new' : RunText) (rest' : List ℕ)
      → Next before after old (reader_of old.dictionary new' rest' ended reads (old.lines + 0)) (Err error)
  Next-unread after error e new' rest' = elim e.number [
    | inl n ↦ HasRead-needed after e.kept new' rest' error n e.line
    | inr n ↦ HasRead-memory before now after old run uncut ended reads h e.kept new' rest' error n e.line
  ]

-- what the end of the file gives
module _ (before now : Given) (old : ReaderText) (run : RunText) (uncut : List ℕ) (ended : Bool) (reads : ℕ)
    (h : HasRead before now old run uncut ended reads) (end : ended ≡ true) (new : RunText) (rest : List ℕ)
    (a : GathersAll old.dictionary (is_front old) ended run uncut new rest) where
  pub Next-end : (left : RunText) (result : Option RunText) → TakesRest new left result
      → Next before now old (reader_of old.dictionary left rest ended reads (old.lines + length (given_lines (Ok result)))) (Ok result)
  Next-end left None r = Next-none before now old run uncut ended reads h end new rest a left r
  Next-end left (Some given') r = Next-rest before now old run uncut ended reads h end new rest a left given' r

  pub IsResting-end : (left : RunText) (result : Option RunText) → TakesRest new left result
      → IsResting (reader_of old.dictionary left rest ended reads (old.lines + length (given_lines (Ok result))))
  IsResting-end left None r = IsResting-none before now old run uncut ended reads h end new rest a left r
  IsResting-end left (Some given') r = IsResting-rest before now old run uncut ended reads h end new rest a left given' r

-- memory lacked before anything was read
pub Next-memory : (before : Given) (old : ReaderText) (error : DataError) → IsResting old → (old.ended ≡ true → IsAtEnd before) → error.number ≡ 90 → error.line ≡ 0
    → Next before before old (reader_of old.dictionary old.run old.uncut old.ended old.reads (old.lines + 0)) (Err error)
Next-memory before old error r end n l =
    HasRead-memory before before before old old.run old.uncut old.ended old.reads (HasRead-none before old r end) (Keeps-refl before) old.run old.uncut error n l

-- the error that a reader keeps is no part of a call
pub Next-errors : (before after : Given) (old new : ReaderText) (e f : Option DataError) (result : Result (Option RunText) DataError)
    → Next before after old new result → Next before after (record old { error = e }) (record new { error = f }) result
Next-errors before after old new e f result h = record {
  taken = h.taken;
  consumes = h.consumes;
  rises = h.rises;
  counted = h.counted;
  stays = h.stays;
  dictionary = h.dictionary;
  lines = h.lines;
  answers = h.answers;
}

-- after an error nothing is held
pub Next-failed : (before after : Given) (old new new' : ReaderText) (error : DataError) → Next before after old new (Err error)
    → new'.reads ≡ new.reads → new'.ended ≡ new.ended → new'.dictionary ≡ new.dictionary → new'.lines ≡ old.lines → Next before after old new' (Err error)
Next-failed before after old new new' error h r e d l = record {
  taken = h.taken;
  consumes = h.consumes;
  rises = omega (arith, h.rises);
  counted = omega (arith, h.counted);
  stays = λ was. let s = h.stays was in (s.0, e ∙ s.1);
  dictionary = d ∙ h.dictionary;
  lines = l ∙ sym (add-zero old.lines);
  answers = subst (λ b. IsError old.dictionary (held_of old ++ h.taken) (is_front old) b old.lines error) (sym e) h.answers;
}

pub IsResting-failed : (d : DictionaryText) (run : RunText) (ended : Bool) (reads lines : ℕ) → run.lines ≡ [] → run.marked ≡ false → run.first_line ≡ lines + 1 → reads ≤ 2 ^ 40
    → lines ≤ reads * 65536 → IsResting (reader_of d run [] ended reads lines)
IsResting-failed d run ended reads lines l m n few room =
    let none : length run.lines ≡ 0 = ap length l in
    record {
      gathered = Gathered-empty d (eqb lines 0) ended run [] l m;
      number = n;
      one = omega arith;
      bytes = omega arith;
      few_reads = few;
      few_lines = omega arith;
    }
