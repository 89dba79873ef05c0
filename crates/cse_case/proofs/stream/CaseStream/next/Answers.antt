use Rattle.std.proofs.Common.{◌≡◌, Option, ap, ◌∙◌, refl, subst, sym, None, Ok, Some, arith, rules}
use Rattle.cse_case.specs.declared.error.DataError.{DataError}
use Rattle.cse_case.specs.Reader.{ReaderText}
use Rattle.cse_case.specs.Reading.{NextCase}
use Rattle.std.proofs.lemmas.Grind.{common_steps}
use Rattle.cse_case.proofs.ReadLaws.{next_case, run_wide}
use Rattle.cse_case.proofs.stream.CaseStream.next.Goals as goal

pub case_of-requires-clause-wide : goal.case_of-requires-clause-wide
case_of-requires-clause-wide g c =
    let none : c.self.inside.error ≡ None = first_of (search rules, grind (arith, common_steps)) in
    let next = rw c.in-Ok-Some.field-0-is at (c.in-Ok-Some.ensures.next (c.self.invariant.sound none)) in
    run_wide _ _ _ _ _ _ _ c.in-Ok-Some.run' next.answers c.self.invariant.same

pub returns-in-Ok-clause-next : goal.returns-in-Ok-clause-next
returns-in-Ok-clause-next g c = λ none.
    let v = c.self.inside in
    let sound = c.self.invariant.sound (ap (λ r. r.error) c.self.view_is ∙ none) in
    let next = rw c.in-Ok-Some.field-0-is at (c.in-Ok-Some.ensures.next sound) in
    subst (λ (x : ReaderText). NextCase (g.R.Input.given c.args.input.now) (g.R.Input.given c.next.new.input) x (record c.next.new.self { error = v.error }) (Ok (Some c.in-Ok.case))) c.self.view_is
    (next_case _ _ v.runs c.next.new.self v.error v.error c.in-Ok-Some.run' c.in-Ok.case v.source next c.self.invariant.same c.in-Ok.ensures.made)

-- an error is kept, or none
clash : (o : Option DataError) (e : DataError) → o ≡ Some e → o ≡ None → ⊥
clash o e some none = cc

pub returns-in-Some-clause-next : goal.returns-in-Some-clause-next
returns-in-Some-clause-next g c = λ none. absurd (clash _ _ c.in-Some.is (ap (λ r. r.error) c.self.view_is ∙ none))

pub returns-in-Some-clause-failed : goal.returns-in-Some-clause-failed
returns-in-Some-clause-failed g c = λ none. absurd (clash _ _ c.in-Some.is (ap (λ r. r.error) c.self.view_is ∙ none))

pub returns-in-Some-clause-end : goal.returns-in-Some-clause-end
returns-in-Some-clause-end g c = c.requires

pub returns-in-Some-clause-sound : goal.returns-in-Some-clause-sound
returns-in-Some-clause-sound g c = λ _. refl

pub next-requires : goal.next-requires
next-requires g c = λ ended. c.requires (sym (ap (λ r. r.ended) c.self.view_is) ∙ ended)

pub returns-in-Ok-None-clause-end : goal.returns-in-Ok-None-clause-end
returns-in-Ok-None-clause-end g c = c.in-Ok-None.ensures.end

pub returns-in-Ok-None-clause-few_reads : goal.returns-in-Ok-None-clause-few_reads
returns-in-Ok-None-clause-few_reads g c = c.in-Ok-None.ensures.few_reads

pub returns-in-Ok-None-clause-few : goal.returns-in-Ok-None-clause-few
returns-in-Ok-None-clause-few g c = c.in-Ok-None.ensures.few

pub returns-in-Ok-None-clause-works : goal.returns-in-Ok-None-clause-works
returns-in-Ok-None-clause-works g c = c.in-Ok-None.ensures.works

pub returns-in-Ok-clause-end : goal.returns-in-Ok-clause-end
returns-in-Ok-clause-end g c = c.in-Ok-Some.ensures.end

pub returns-in-Ok-clause-few_reads : goal.returns-in-Ok-clause-few_reads
returns-in-Ok-clause-few_reads g c = c.in-Ok-Some.ensures.few_reads

pub returns-in-Ok-clause-few : goal.returns-in-Ok-clause-few
returns-in-Ok-clause-few g c = c.in-Ok-Some.ensures.few

pub returns-in-Ok-clause-works : goal.returns-in-Ok-clause-works
returns-in-Ok-clause-works g c = c.in-Ok-Some.ensures.works

pub returns-in-Err-case_of-clause-err : goal.returns-in-Err-case_of-clause-err
returns-in-Err-case_of-clause-err g c = refl

pub returns-in-Err-case_of-clause-end : goal.returns-in-Err-case_of-clause-end
returns-in-Err-case_of-clause-end g c = c.in-Ok-Some.ensures.end

pub returns-in-Err-case_of-clause-few_reads : goal.returns-in-Err-case_of-clause-few_reads
returns-in-Err-case_of-clause-few_reads g c = c.in-Ok-Some.ensures.few_reads

pub returns-in-Err-case_of-clause-few : goal.returns-in-Err-case_of-clause-few
returns-in-Err-case_of-clause-few g c = c.in-Ok-Some.ensures.few

pub returns-in-Err-case_of-clause-failed : goal.returns-in-Err-case_of-clause-failed
returns-in-Err-case_of-clause-failed g c = λ _ e. absurd (omega arith)

pub returns-in-Err-case_of-clause-sound : goal.returns-in-Err-case_of-clause-sound
returns-in-Err-case_of-clause-sound g c = λ _. c.in-Ok-Some.ensures.works

pub returns-in-Err-clause-err : goal.returns-in-Err-clause-err
returns-in-Err-clause-err g c = refl

pub returns-in-Err-clause-end : goal.returns-in-Err-clause-end
returns-in-Err-clause-end g c = c.in-Err.ensures.end

pub returns-in-Err-clause-few_reads : goal.returns-in-Err-clause-few_reads
returns-in-Err-clause-few_reads g c = c.in-Err.ensures.few_reads

pub returns-in-Err-clause-few : goal.returns-in-Err-clause-few
returns-in-Err-clause-few g c = c.in-Err.ensures.few

pub returns-in-Err-clause-failed : goal.returns-in-Err-clause-failed
returns-in-Err-clause-failed g c = λ none. c.in-Err.ensures.failed (c.self.invariant.sound (ap (λ r. r.error) c.self.view_is ∙ none))

pub returns-in-Err-clause-sound : goal.returns-in-Err-clause-sound
returns-in-Err-clause-sound g c = c.in-Err.ensures.sound
