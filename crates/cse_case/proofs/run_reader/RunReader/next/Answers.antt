use Rattle.std.proofs.Common.{◌≡◌, ◌+◌, ◌*◌, ◌≤◌, ◌^◌, ℕ, Bool, false, List, [], Option, None, Some, Ok, Err, add-zero, ap, ◌∙◌, length, refl, subst, sym, arith}
use Rattle.cse_value.specs.Device.{Given}
use Rattle.cse_dict.specs.Dictionary.{DictionaryText}
use Rattle.cse_case.specs.NamedColumns.{LayoutText}
use Rattle.cse_case.specs.declared.error.DataError.{DataError}
use Rattle.cse_case.specs.Reader.{Next, ReaderText, given_lines, is_front}
use Rattle.cse_case.specs.Resting.{IsKept, IsLayoutOf, IsResting, reader_of}
use Rattle.cse_case.specs.Gathering.{Gathered}
use Rattle.cse_case.specs.Run.{RunText, run_text}
use Rattle.cse_case.proofs.RunReadLaws.{Next-errors, Next-failed}
use Rattle.cse_case.proofs.run_reader.RunReader.next.Goals as goal

-- a reader that holds nothing
holds_none : (d : DictionaryText) (layout : Option LayoutText) (run : RunText) (uncut : List ℕ) (ended : Bool) (reads lines : ℕ) → run.lines ≡ [] → run.marked ≡ false
    → run.first_line ≡ lines + 1 → uncut ≡ [] → reads ≤ 2 ^ 40 → lines ≤ reads * 65536 → IsLayoutOf d layout → IsKept d layout run uncut ended reads lines
holds_none d layout run uncut ended reads lines none unmarked number empty few count has =
    let bare : run ≡ run_text d run.first_line [] = ap (λ ls. (let r : RunText = record { lines = ls; marked = run.marked; first_line = run.first_line } in r)) none
    ∙ ap (λ m. (let r : RunText = record { lines = []; marked = m; first_line = run.first_line } in r)) unmarked in
    let gathered : Gathered d (is_front (reader_of d run uncut ended reads lines)) ended run.first_line run uncut = record {
      done = [];
      is = bare;
      same = tt;
      few = omega arith;
      stands = tt;
      lines = λ later more m. refl;
    } in
    record {
      rests = record {
        gathered = gathered;
        number = number;
        one = rw none (omega arith);
        bytes = rw empty (omega arith);
        few_reads = few;
        few_lines = rw (none, empty) (omega arith);
      };
      has_layout = has;
    }

pub invariant_of-self-in-Err : goal.invariant_of-self-in-Err
invariant_of-self-in-Err g c =
    holds_none _ _ c.new.result c.new-in-Err.result _ c.next_by_layout-answer.new.reads c.self.inside.lines c.new.ensures.lines c.new.ensures.marked c.new.ensures.first_line c.new-in-Err.ensures
    c.in-Err.ensures.few_reads (omega (arith, c.in-Err.ensures.next.rises, c.self.invariant.rests.few_lines)) c.in-Err.ensures.layout

-- an error is kept, or none
clash : (o : Option DataError) (e : DataError) → o ≡ Some e → o ≡ None → ⊥
clash o e some none = cc

-- what a call answers, over the parts of the reader
module _ (before after : Given) (d : DictionaryText) (run new : RunText) (uncut rest : List ℕ) (ended ended' : Bool) (reads reads' lines : ℕ) (e : Option DataError) (self : ReaderText)
    (view : (let r : ReaderText = record { dictionary = d; run = run; uncut = uncut; ended = ended; reads = reads; lines = lines; error = e } in r) ≡ self) where
  next_some : (n : ℕ) (o : Option RunText) (given' : RunText) → o ≡ Some given' → n ≡ length given'.lines
      → Next before after (reader_of d run uncut ended reads lines) (reader_of d new rest ended' reads' (lines + length (given_lines (Ok o)))) (Ok o)
      → Next before after self (record { dictionary = d; run = new; uncut = rest; ended = ended'; reads = reads'; lines = lines + n; error = e }) (Ok (Some given'))
  next_some n o given' is len h =
      let old = reader_of d run uncut ended reads lines in
      let some = subst (λ x. Next before after old (reader_of d new rest ended' reads' (lines + length (given_lines (Ok x)))) (Ok x)) is h in
      let many = subst (λ k. Next before after old (reader_of d new rest ended' reads' (lines + k)) (Ok (Some given'))) (sym len) some in
      subst (λ s. Next before after s (record { dictionary = d; run = new; uncut = rest; ended = ended'; reads = reads'; lines = lines + n; error = e }) (Ok (Some given'))) view
      (Next-errors before after old (reader_of d new rest ended' reads' (lines + n)) e e (Ok (Some given')) many)

  next_none : (o : Option RunText) → o ≡ None
      → Next before after (reader_of d run uncut ended reads lines) (reader_of d new rest ended' reads' (lines + length (given_lines (Ok o)))) (Ok o)
      → Next before after self (record { dictionary = d; run = new; uncut = rest; ended = ended'; reads = reads'; lines = lines; error = e }) (Ok None)
  next_none o is h =
      let old = reader_of d run uncut ended reads lines in
      let none = subst (λ x. Next before after old (reader_of d new rest ended' reads' (lines + length (given_lines (Ok x)))) (Ok x)) is h in
      let same = subst (λ k. Next before after old (reader_of d new rest ended' reads' k) (Ok None)) (add-zero lines) none in
      subst (λ s. Next before after s (record { dictionary = d; run = new; uncut = rest; ended = ended'; reads = reads'; lines = lines; error = e }) (Ok None)) view
      (Next-errors before after old (reader_of d new rest ended' reads' lines) e e (Ok None) same)

  next_err : (run' : RunText) (uncut' : List ℕ) (error : DataError)
      → Next before after (reader_of d run uncut ended reads lines) (reader_of d new rest ended' reads' (lines + 0)) (Err error)
      → Next before after self (record { dictionary = d; run = run'; uncut = uncut'; ended = ended'; reads = reads'; lines = lines; error = Some error }) (Err error)
  next_err run' uncut' error h =
      let old = reader_of d run uncut ended reads lines in
      let failed = Next-failed before after old (reader_of d new rest ended' reads' (lines + 0)) (reader_of d run' uncut' ended' reads' lines) error h refl refl refl refl in
      subst (λ s. Next before after s (record { dictionary = d; run = run'; uncut = uncut'; ended = ended'; reads = reads'; lines = lines; error = Some error }) (Err error)) view
      (Next-errors before after old (reader_of d run' uncut' ended' reads' lines) e (Some error) (Err error) failed)

rests_some : (d : DictionaryText) (run : RunText) (uncut : List ℕ) (ended : Bool) (reads lines n : ℕ) (o : Option RunText) (given' : RunText) → o ≡ Some given' → n ≡ length given'.lines
    → IsResting (reader_of d run uncut ended reads (lines + length (given_lines (Ok o)))) → IsResting (reader_of d run uncut ended reads (lines + n))
rests_some d run uncut ended reads lines n o given' is len r =
    subst (λ k. IsResting (reader_of d run uncut ended reads (lines + k))) (ap (λ x. length (given_lines (Ok x))) is ∙ sym len) r

rests_none : (d : DictionaryText) (run : RunText) (uncut : List ℕ) (ended : Bool) (reads lines : ℕ) (o : Option RunText) → o ≡ None
    → IsResting (reader_of d run uncut ended reads (lines + length (given_lines (Ok o)))) → IsResting (reader_of d run uncut ended reads lines)
rests_none d run uncut ended reads lines o is r =
    subst (λ k. IsResting (reader_of d run uncut ended reads k)) (ap (λ x. lines + length (given_lines (Ok x))) is ∙ add-zero lines) r

pub next_by_layout-answer-requires-clause-layout : goal.next_by_layout-answer-requires-clause-layout
next_by_layout-answer-requires-clause-layout g c = c.self.invariant.has_layout

pub next_by_layout-answer-requires-clause-rests : goal.next_by_layout-answer-requires-clause-rests
next_by_layout-answer-requires-clause-rests g c = c.self.invariant.rests

pub next_by_layout-answer-requires-clause-end : goal.next_by_layout-answer-requires-clause-end
next_by_layout-answer-requires-clause-end g c = λ ended. c.requires (sym (ap (λ r. r.ended) c.self.view_is) ∙ ended)

pub returns-in-Some-clause-next : goal.returns-in-Some-clause-next
returns-in-Some-clause-next g c = λ none. absurd (clash _ _ c.in-Some.is (ap (λ r. r.error) c.self.view_is ∙ none))

pub returns-in-Some-clause-failed : goal.returns-in-Some-clause-failed
returns-in-Some-clause-failed g c = λ none. absurd (clash _ _ c.in-Some.is (ap (λ r. r.error) c.self.view_is ∙ none))

pub returns-in-Some-clause-end : goal.returns-in-Some-clause-end
returns-in-Some-clause-end g c = c.requires

pub returns-in-Some-clause-sound : goal.returns-in-Some-clause-sound
returns-in-Some-clause-sound g c = λ _. refl

pub invariant_of-self : goal.invariant_of-self
invariant_of-self g c = record {
  rests = rests_some _ _ _ _ _ _ _ _ _ c.in-Ok-Some.field-0-is c.len.ensures c.in-Ok-Some.ensures.rests;
  has_layout = c.in-Ok-Some.ensures.layout;
}

pub invariant_of-self-in-Ok-None : goal.invariant_of-self-in-Ok-None
invariant_of-self-in-Ok-None g c = record {
  rests = rests_none _ _ _ _ _ _ _ c.in-Ok-None.field-0-is c.in-Ok-None.ensures.rests;
  has_layout = c.in-Ok-None.ensures.layout;
}

pub returns-in-Ok-Some-clause-next : goal.returns-in-Ok-Some-clause-next
returns-in-Ok-Some-clause-next g c = λ _. next_some _ _ _ _ _ _ _ _ _ _ _ _ _ _ c.self.view_is _ _ _ c.in-Ok-Some.field-0-is c.len.ensures c.in-Ok-Some.ensures.next

pub returns-in-Ok-Some-clause-end : goal.returns-in-Ok-Some-clause-end
returns-in-Ok-Some-clause-end g c = c.in-Ok-Some.ensures.end

pub returns-in-Ok-Some-clause-few_reads : goal.returns-in-Ok-Some-clause-few_reads
returns-in-Ok-Some-clause-few_reads g c = c.in-Ok-Some.ensures.few_reads

pub returns-in-Ok-Some-clause-works : goal.returns-in-Ok-Some-clause-works
returns-in-Ok-Some-clause-works g c = c.in-Ok-Some.ensures.works

pub returns-in-Ok-None-clause-next : goal.returns-in-Ok-None-clause-next
returns-in-Ok-None-clause-next g c = λ _. next_none _ _ _ _ _ _ _ _ _ _ _ _ _ _ c.self.view_is _ c.in-Ok-None.field-0-is c.in-Ok-None.ensures.next

pub returns-in-Ok-None-clause-end : goal.returns-in-Ok-None-clause-end
returns-in-Ok-None-clause-end g c = c.in-Ok-None.ensures.end

pub returns-in-Ok-None-clause-few_reads : goal.returns-in-Ok-None-clause-few_reads
returns-in-Ok-None-clause-few_reads g c = c.in-Ok-None.ensures.few_reads

pub returns-in-Ok-None-clause-works : goal.returns-in-Ok-None-clause-works
returns-in-Ok-None-clause-works g c = c.in-Ok-None.ensures.works

pub returns-in-Err-clause-next : goal.returns-in-Err-clause-next
returns-in-Err-clause-next g c = λ _. next_err _ _ _ _ _ _ _ _ _ _ _ _ _ _ c.self.view_is _ _ _ c.in-Err.ensures.next

pub returns-in-Err-clause-err : goal.returns-in-Err-clause-err
returns-in-Err-clause-err g c = refl

pub returns-in-Err-clause-end : goal.returns-in-Err-clause-end
returns-in-Err-clause-end g c = c.in-Err.ensures.end

pub returns-in-Err-clause-few_reads : goal.returns-in-Err-clause-few_reads
returns-in-Err-clause-few_reads g c = c.in-Err.ensures.few_reads

pub returns-in-Err-clause-failed : goal.returns-in-Err-clause-failed
returns-in-Err-clause-failed g c = λ _. c.in-Err.ensures.failed

pub returns-in-Err-clause-sound : goal.returns-in-Err-clause-sound
returns-in-Err-clause-sound g c = c.in-Err.ensures.sound
