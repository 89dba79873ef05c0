use Rattle.std.proofs.Common.{◌≡◌, ◌+◌, ◌-◌, ◌*◌, ◌^◌, ◌<◌, ◌≤◌, ◌∙◌, ℕ, Bool, false, arith, ap, cond, inl, inr, length, sym, subst, true}
use Rattle.std.specs.Prelude.{◌==◌}
use Rattle.std.proofs.lemmas.Bool.{false≢true}
use Rattle.cse_case.specs.Taking.{Cuts, GathersAll, GivesFirst, RefusesAt}
use Rattle.cse_case.proofs.DecodeLaws.{IfFault-more}
use Rattle.cse_case.proofs.RunReadLaws.{HasRead-more, HasRead-none, IsResting-end, IsResting-given, Next-end, Next-given, Next-refused, Next-unread, refused_low}
use Rattle.cse_case.proofs.next.next_run.Goals as goal

-- lines can be counted
number_fits : (first lines held reads : ℕ) → first ≡ lines + 1 → lines + held ≤ reads * 65536 → reads ≤ 2 ^ 40 → first + held < 2 ^ 64
number_fits first lines held reads is few low = omega arith

rest_fits : (first first' lines held reads n rest : ℕ) → first' ≡ first → first ≡ lines + 1 → lines + held ≤ reads * 65536 → reads ≤ 2 ^ 40 → n + rest ≤ held → first' + n < 2 ^ 64
rest_fits first first' lines held reads n rest same is few low fewer = omega arith

fault_fits : (lines held reads n len : ℕ) → lines + held ≤ reads * 65536 → reads ≤ 2 ^ 40 → n ≤ held → len ≡ n → lines + len + 1 < 2 ^ 64
fault_fits lines held reads n len few low fewer is = omega arith

-- each read leaves fewer
fewer_reads : (open' reads : ℕ) → reads ≤ 2 ^ 40 → (reads ≡ 2 ^ 40 → ⊥) → open' + (2 ^ 40 - (reads + 1)) < open' + (2 ^ 40 - reads)
fewer_reads open' reads few other = omega arith

ends : (ended : Bool) (left : ℕ) → ended ≡ false → cond true 0 1 + left < cond ended 0 1 + left
ends ended left open' = rw open' (omega arith)

pub returns-in-Ok-None-clause-next : goal.returns-in-Ok-None-clause-next
returns-in-Ok-None-clause-next g c =
    let d = c.args.dictionary.now in
    let all : GathersAll d (c.args.lines == 0) c.reads.ended c.reads.run c.reads.buffer c.gather.new.run c.gather.new.buffer =
    subst (Cuts d (c.args.lines == 0) c.reads.ended c.reads.run c.reads.buffer c.gather.new.run c.gather.new.buffer) c.in-Ok-None.field-0-is c.in-Ok-None.ensures.ok in
    Next-end _ _ _ _ _ _ _ c.reads.invariant c.if-ended.true _ _ all c.take_rest.new.run c.take_rest.result c.take_rest.ensures

pub returns-in-Ok-None-clause-rests : goal.returns-in-Ok-None-clause-rests
returns-in-Ok-None-clause-rests g c =
    let d = c.args.dictionary.now in
    let all : GathersAll d (c.args.lines == 0) c.reads.ended c.reads.run c.reads.buffer c.gather.new.run c.gather.new.buffer =
    subst (Cuts d (c.args.lines == 0) c.reads.ended c.reads.run c.reads.buffer c.gather.new.run c.gather.new.buffer) c.in-Ok-None.field-0-is c.in-Ok-None.ensures.ok in
    IsResting-end _ _ _ _ _ _ _ c.reads.invariant c.if-ended.true _ _ all c.take_rest.new.run c.take_rest.result c.take_rest.ensures

pub reads-preserved-in-Ok-eq0 : goal.reads-preserved-in-Ok-eq0
reads-preserved-in-Ok-eq0 g c =
    let d = c.args.dictionary.now in
    let more = c.in-Ok-eq0.ensures.more in
    let all : GathersAll d (c.args.lines == 0) c.reads.ended c.reads.run c.reads.buffer c.gather.new.run c.gather.new.buffer =
    subst (Cuts d (c.args.lines == 0) c.reads.ended c.reads.run c.reads.buffer c.gather.new.run c.gather.new.buffer) c.in-Ok-None.field-0-is c.in-Ok-None.ensures.ok in
    HasRead-more _ _ _ _ _ _ _ _ _ c.reads.ended true c.reads.reads c.reads.reads _ c.reads.invariant c.if-ended.false all more c.in-Ok-eq0.ensures.works
    (λ end. more.end c.in-Ok-eq0.field-0-test) (omega arith) c.reads.invariant.few_reads (omega arith) (λ room. omega (arith, c.in-Ok-eq0.field-0-test))

pub reads-preserved : goal.reads-preserved
reads-preserved g c =
    let d = c.args.dictionary.now in
    let more = c.in-Ok.ensures.more in
    let all : GathersAll d (c.args.lines == 0) c.reads.ended c.reads.run c.reads.buffer c.gather.new.run c.gather.new.buffer =
    subst (Cuts d (c.args.lines == 0) c.reads.ended c.reads.run c.reads.buffer c.gather.new.run c.gather.new.buffer) c.in-Ok-None.field-0-is c.in-Ok-None.ensures.ok in
    HasRead-more _ _ _ _ _ _ _ _ _ c.reads.ended c.reads.ended c.reads.reads (c.reads.reads + 1) _ c.reads.invariant c.if-ended.false all more c.in-Ok.ensures.works
    (λ end. absurd (false≢true (sym c.if-ended.false ∙ end))) (omega arith) (omega (arith, c.reads.invariant.few_reads, c.in-Ok.ensures.few))
    (omega (arith, c.in-Ok.field-0-test)) (λ room. omega (arith, more.most))

pub reads-init : goal.reads-init
reads-init g c = HasRead-none _ _ c.requires.rests c.requires.end

pub gather-requires-clause-layout : goal.gather-requires-clause-layout
gather-requires-clause-layout g c = c.requires.layout

pub gather-requires-clause-gathered : goal.gather-requires-clause-gathered
gather-requires-clause-gathered g c = c.reads.invariant.gathered

pub gather-requires-clause-number : goal.gather-requires-clause-number
gather-requires-clause-number g c =
    let i = c.reads.invariant in
    number_fits c.reads.run.first_line c.args.lines (length c.reads.run.lines + length c.reads.buffer) c.reads.reads i.number i.few_lines i.few_reads

pub returns-in-Ok-Some-clause-next : goal.returns-in-Ok-Some-clause-next
returns-in-Ok-Some-clause-next g c =
    let gives : GivesFirst c.args.dictionary.now (c.args.lines == 0) c.reads.ended c.reads.run c.reads.buffer c.gather.new.run c.gather.new.buffer c.in-Ok-Some.given =
    subst (Cuts c.args.dictionary.now (c.args.lines == 0) c.reads.ended c.reads.run c.reads.buffer c.gather.new.run c.gather.new.buffer) c.in-Ok-Some.field-0-is c.in-Ok-Some.ensures.ok in
    Next-given _ _ _ _ _ _ _ c.reads.invariant _ _ _ gives

pub returns-in-Ok-Some-clause-rests : goal.returns-in-Ok-Some-clause-rests
returns-in-Ok-Some-clause-rests g c =
    let gives : GivesFirst c.args.dictionary.now (c.args.lines == 0) c.reads.ended c.reads.run c.reads.buffer c.gather.new.run c.gather.new.buffer c.in-Ok-Some.given =
    subst (Cuts c.args.dictionary.now (c.args.lines == 0) c.reads.ended c.reads.run c.reads.buffer c.gather.new.run c.gather.new.buffer) c.in-Ok-Some.field-0-is c.in-Ok-Some.ensures.ok in
    IsResting-given _ _ _ _ _ _ _ c.reads.invariant _ _ _ gives

pub take_rest-requires : goal.take_rest-requires
take_rest-requires g c =
    let d = c.args.dictionary.now in
    let i = c.reads.invariant in
    let all : GathersAll d (c.args.lines == 0) c.reads.ended c.reads.run c.reads.buffer c.gather.new.run c.gather.new.buffer =
    subst (Cuts d (c.args.lines == 0) c.reads.ended c.reads.run c.reads.buffer c.gather.new.run c.gather.new.buffer) c.in-Ok-None.field-0-is c.in-Ok-None.ensures.ok in
    rest_fits c.reads.run.first_line c.gather.new.run.first_line c.args.lines (length c.reads.run.lines + length c.reads.buffer) c.reads.reads (length c.gather.new.run.lines) (length c.gather.new.buffer)
    all.gathers.first_line i.number i.few_lines i.few_reads all.gathers.fewer

pub refusal-requires : goal.refusal-requires
refusal-requires g c =
    let i = c.reads.invariant in
    IfFault-more (RefusesAt c.args.dictionary.now (c.args.lines == 0) c.reads.ended c.reads.run c.reads.buffer c.gather.new.run) (λ number. c.args.lines + c.len.result + 1 < 2 ^ 64) c.in-Err.stop
    (λ number fault. fault_fits c.args.lines (length c.reads.run.lines + length c.reads.buffer) c.reads.reads (length c.gather.new.run.lines) c.len.result i.few_lines i.few_reads fault.few c.len.ensures)
    c.in-Err.ensures.err

pub returns-in-Err-clause-next : goal.returns-in-Err-clause-next
returns-in-Err-clause-next g c = Next-refused _ _ _ _ _ _ _ c.reads.invariant _ _ c.len.result c.in-Err.stop c.refusal.result c.in-Err.ensures.err c.len.ensures c.refusal.ensures

pub returns-in-Err-clause-failed : goal.returns-in-Err-clause-failed
returns-in-Err-clause-failed g c = λ e.
    absurd (refused_low c.args.dictionary.now (c.args.lines == 0) c.reads.ended c.reads.run c.reads.buffer c.gather.new.run c.args.lines c.len.result c.in-Err.stop c.refusal.result c.in-Err.ensures.err c.refusal.ensures e)

pub returns-in-Err-read_more-clause-next : goal.returns-in-Err-read_more-clause-next
returns-in-Err-read_more-clause-next g c =
    let d = c.args.dictionary.now in
    let all : GathersAll d (c.args.lines == 0) c.reads.ended c.reads.run c.reads.buffer c.gather.new.run c.gather.new.buffer =
    subst (Cuts d (c.args.lines == 0) c.reads.ended c.reads.run c.reads.buffer c.gather.new.run c.gather.new.buffer) c.in-Ok-None.field-0-is c.in-Ok-None.ensures.ok in
    Next-unread _ _ _ _ _ _ _ c.reads.invariant c.if-ended.false _ _ all _ c.in-Err-read_more.failure c.in-Err-read_more.ensures.err _ _

pub returns-in-Err-read_more-clause-end : goal.returns-in-Err-read_more-clause-end
returns-in-Err-read_more-clause-end g c = λ end. absurd (false≢true (sym c.if-ended.false ∙ end))

pub returns-in-Err-read_more-clause-few_reads : goal.returns-in-Err-read_more-clause-few_reads
returns-in-Err-read_more-clause-few_reads g c = c.reads.invariant.few_reads

pub returns-in-Err-read_more-clause-failed : goal.returns-in-Err-read_more-clause-failed
returns-in-Err-read_more-clause-failed g c = λ e. elim (c.in-Err-read_more.ensures.err.failed e) [
  | inl once ↦ inl (once ∙ ap (λ n. n + 1) c.reads.invariant.sound)
  | inr many ↦ inr many
]

pub returns-in-Err-read_more-clause-sound : goal.returns-in-Err-read_more-clause-sound
returns-in-Err-read_more-clause-sound g c = λ other. c.in-Err-read_more.ensures.err.sound other ∙ c.reads.invariant.sound

pub reads-smaller-in-Ok-eq0 : goal.reads-smaller-in-Ok-eq0
reads-smaller-in-Ok-eq0 g c = ends c.reads.ended (2 ^ 40 - c.reads.reads) c.if-ended.false

pub reads-smaller : goal.reads-smaller
reads-smaller g c = fewer_reads (cond c.reads.ended 0 1) c.reads.reads c.reads.invariant.few_reads c.in-Ok.ensures.few

pub returns-in-Ok-Some-clause-few_reads : goal.returns-in-Ok-Some-clause-few_reads
returns-in-Ok-Some-clause-few_reads g c = c.reads.invariant.few_reads

pub returns-in-Ok-Some-clause-end : goal.returns-in-Ok-Some-clause-end
returns-in-Ok-Some-clause-end g c = c.reads.invariant.end

pub returns-in-Ok-None-clause-few_reads : goal.returns-in-Ok-None-clause-few_reads
returns-in-Ok-None-clause-few_reads g c = c.reads.invariant.few_reads

pub returns-in-Ok-None-clause-end : goal.returns-in-Ok-None-clause-end
returns-in-Ok-None-clause-end g c = c.reads.invariant.end

pub returns-in-Ok-Some-clause-works : goal.returns-in-Ok-Some-clause-works
returns-in-Ok-Some-clause-works g c = c.reads.invariant.sound

pub returns-in-Ok-None-clause-works : goal.returns-in-Ok-None-clause-works
returns-in-Ok-None-clause-works g c = c.reads.invariant.sound

pub returns-in-Err-clause-few_reads : goal.returns-in-Err-clause-few_reads
returns-in-Err-clause-few_reads g c = c.reads.invariant.few_reads

pub returns-in-Err-clause-end : goal.returns-in-Err-clause-end
returns-in-Err-clause-end g c = c.reads.invariant.end

pub returns-in-Err-clause-sound : goal.returns-in-Err-clause-sound
returns-in-Err-clause-sound g c = λ _. c.reads.invariant.sound
