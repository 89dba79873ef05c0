use Rattle.std.proofs.Common.{◌≡◌, ◌+◌, ◌<◌, ◌∷◌, [], ℕ, List, Some, map, ◌∙◌, ap, arith, drop, get_or, length, subst, sym}
use Rattle.std.specs.List.{AllByRecursion}
use Rattle.std.proofs.lemmas.List.{drop_all, drop_more}
use Rattle.cse_verify.specs.CaseEvents.{record_events, records_events}
use Rattle.cse_steps.specs.Fits.{occurrences_in}
use Rattle.cse_batch_parts.specs.declared.handled.HandledRecord.{HandledRecord}
use Rattle.cse_batch_parts.specs.Handled.{IsHandledRecord, number_of}
use Rattle.cse_batch_parts.specs.Scene.{scene, scene_after_all}
use Rattle.cse_batch_parts.proofs.HandledLaws.{only_records}
use Rattle.cse_batch_parts.proofs.SceneLaws.{goes_further, records_next}
use Rattle.cse_batch_parts.proofs.events.run_records.Goals as goal

pub records-preserved : goal.records-preserved
records-preserved g c =
    let inv = c.records.invariant in
    let done = c.in_ok-run_record.ensures in
    let v = c.args.verified.now in
    let items = v.image.lists.items in
    let before = scene (Some c.records.case) c.records.store c.records.reports in
    let after = scene (Some c.run_record.new.case) c.run_record.new.store c.run_record.new.reports in
    let all = c.args.handled.now.records.items in
    let at = c.records.of_record-index in
    let one = c.of_record-item.result in
    let low : at < length all = omega (arith, c.records-test.true, ap length c.deref-of_record-items.ensures.value) in
    let is : one ≡ get_or all at one = c.of_record-item.is ∙ ap (λ (l : List HandledRecord). get_or l at one) c.deref-of_record-items.ensures.value in
    let split : drop at all ≡ one ∷ drop (at + 1) all = drop_more all at one low ∙ ap (λ (h : HandledRecord). h ∷ drop (at + 1) all) (sym is) in
    let many = ap (λ n. scene_after_all v before (record_events items one.number n)) (inv.goes_on.occurrences one.number) in
    let next = records_next v before after items (occurrences_in (Some c.args.case.now)) all at one split (done.scene ∙ many) in
    let left = subst (λ (l : List HandledRecord). AllByRecursion (IsHandledRecord v) l) split inv.handled in
    record {
      same = done.same;
      reports_fit = done.reports_fit;
      goes_on = goes_further v c.args.case.now c.records.case c.run_record.new.case c.records.store c.run_record.new.store inv.goes_on done.goes_on;
      handled = left.1;
      left = next ∙ inv.left;
    }

pub returns-clause-scene : goal.returns-clause-scene
returns-clause-scene g c =
    let v = c.args.verified.now in
    let items = v.image.lists.items in
    let s = scene (Some c.args.case.now) c.args.store.now c.args.reports.now in
    let now = scene (Some c.records.case) c.records.store c.records.reports in
    let occurrences = occurrences_in (Some c.args.case.now) in
    let all = c.args.handled.now.records.items in
    let none : drop c.records.of_record-index all ≡ [] = drop_all c.records.of_record-index all (omega (arith, c.records-test.false, ap length c.deref-of_record-items.ensures.value)) in
    ap (λ (l : List HandledRecord). scene_after_all v now (records_events items occurrences (map number_of l))) (sym none)
    ∙ (c.records.invariant.left
    ∙ (ap (λ (rs : List ℕ). scene_after_all v s (records_events items occurrences rs)) c.requires.handled.numbers ∙ only_records v occurrences v.image.lists.order s))
