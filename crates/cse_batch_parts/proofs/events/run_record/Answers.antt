use Rattle.std.proofs.Common.{Some, ap}
use Rattle.cse_verify.specs.CaseEvents.{occurrence_events}
use Rattle.cse_steps.specs.Fits.{occurrences_in}
use Rattle.cse_batch_parts.specs.Scene.{scene}
use Rattle.cse_batch_parts.proofs.SceneLaws.{scene_around}
use Rattle.cse_batch_parts.proofs.events.run_record.Goals as goal

pub returns-clause-scene : goal.returns-clause-scene
returns-clause-scene g c =
    let v = c.args.verified.now in
    let items = v.image.lists.items in
    let s = scene (Some c.args.case.now) c.args.store.now c.args.reports.now in
    let s1 = scene (Some c.run_if_handled.new.case) c.run_if_handled.new.store c.run_if_handled.new.reports in
    let s2 = scene (Some c.run_occurrences.new.case) c.run_occurrences.new.store c.run_occurrences.new.reports in
    let s3 = scene (Some c.run_if_handled-2.new.case) c.run_if_handled-2.new.store c.run_if_handled-2.new.reports in
    let same = c.in_ok-run_if_handled.ensures.goes_on.occurrences in
    let number = c.args.handled.now.number in
    let inner_now = occurrence_events number items 1 (occurrences_in (Some c.run_if_handled.new.case) number) in
    let inner = occurrence_events number items 1 (occurrences_in (Some c.args.case.now) number) in
    let equal = ap (λ n. occurrence_events number items 1 n) (same number) in
    scene_around v s s1 s2 s3 c.event-preproc.result c.event-postproc.result _ _ inner_now inner c.event-preproc.ensures c.event-postproc.ensures equal c.in_ok-run_if_handled.ensures.scene c.in_ok-run_occurrences.ensures.scene c.in_ok-run_if_handled-2.ensures.scene
