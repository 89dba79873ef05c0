use Rattle.std.proofs.Common.{Some}
use Rattle.cse_verify.specs.CaseEvents.{records_events}
use Rattle.cse_steps.specs.Fits.{occurrences_in}
use Rattle.cse_batch_parts.specs.Scene.{scene}
use Rattle.cse_batch_parts.proofs.SceneLaws.{records_same, scene_around}
use Rattle.cse_batch_parts.proofs.events.run_case_events.Goals as goal

pub returns-clause-scene : goal.returns-clause-scene
returns-clause-scene g c =
    let v = c.args.verified.now in
    let items = v.image.lists.items in
    let s = scene (Some c.args.case.now) c.args.store.now c.args.reports.now in
    let s1 = scene (Some c.run_if_handled.new.case) c.run_if_handled.new.store c.run_if_handled.new.reports in
    let s2 = scene (Some c.run_records.new.case) c.run_records.new.store c.run_records.new.reports in
    let s3 = scene (Some c.run_if_handled-2.new.case) c.run_if_handled-2.new.store c.run_if_handled-2.new.reports in
    let same = c.in_ok-run_if_handled.ensures.goes_on.occurrences in
    let inner_now = records_events items (occurrences_in (Some c.run_if_handled.new.case)) v.image.lists.order in
    let inner = records_events items (occurrences_in (Some c.args.case.now)) v.image.lists.order in
    let equal = records_same items (occurrences_in (Some c.run_if_handled.new.case)) (occurrences_in (Some c.args.case.now)) same v.image.lists.order in
    scene_around v s s1 s2 s3 c.event-preproc.result c.event-postproc.result _ _ inner_now inner c.event-preproc.ensures c.event-postproc.ensures equal c.in_ok-run_if_handled.ensures.scene c.in_ok-run_records.ensures.scene c.in_ok-run_if_handled-2.ensures.scene
