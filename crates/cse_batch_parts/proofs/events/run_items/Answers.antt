use Rattle.std.proofs.Common.{List, Some, ap, refl, subst, sym, ◌∙◌}
use Rattle.std.proofs.lemmas.Result.{on_ok_weaker}
use Rattle.cse_steps.specs.Fits.{occurrences_in}
use Rattle.cse_steps.specs.State.{world_of}
use Rattle.cse_steps.specs.declared.handled.Handled.{Handled}
use Rattle.cse_steps.specs.Handled.{AllHandled, events_of}
use Rattle.cse_steps.specs.Results.{AllFitFirst, in_occurrence}
use Rattle.cse_verify.specs.Verified.{VerifiedProgram}
use Rattle.cse_batch_parts.specs.Scene.{scene, scene_after_all}
use Rattle.cse_batch_parts.proofs.HandledLaws.{all_handled, items_scene, items_there}
use Rattle.cse_batch_parts.proofs.SceneLaws.{all_fit, all_ran_fits, all_ran_scene}
use Rattle.cse_batch_parts.proofs.events.run_items.Goals as goal

pub run_handled-requires-clause-handled : goal.run_handled-requires-clause-handled
run_handled-requires-clause-handled g c =
    let v = c.args.verified.now in
    let all = all_handled v.image c.args.handled.now.number c.deref.result.now (c.deref.ensures.value ∙ c.requires.handled.items) in
    subst (λ (p : VerifiedProgram). AllHandled p.image c.deref.result.now) (sym c.requires.machine) all

pub run_handled-requires-clause-fits : goal.run_handled-requires-clause-fits
run_handled-requires-clause-fits g c =
    let v = c.args.verified.now in
    let case = Some c.args.case.now in
    let store = c.args.store.now in
    let o = c.args.occurrence in
    let hs = c.args.handled.now.items.items in
    let there = items_there v.image (occurrences_in case) o c.args.handled.now.number hs c.requires.handled.items c.requires.low c.requires.high in
    let fit = all_fit v case (world_of case store) (in_occurrence o (events_of hs)) refl c.requires.goes_on there in
    let same = subst (λ (l : List Handled). AllFitFirst v (in_occurrence o (events_of l)) case store) (sym c.deref.ensures.value) fit in
    subst (λ (p : VerifiedProgram). AllFitFirst p (in_occurrence o (events_of c.deref.result.now)) case store) (sym c.requires.machine) same

pub returns-clause-scene : goal.returns-clause-scene
returns-clause-scene g c =
    let v = c.args.verified.now in
    let o = c.args.occurrence in
    let hs = c.args.handled.now.items.items in
    let before = scene (Some c.args.case.now) c.args.store.now c.args.reports.now in
    let after = scene (Some c.run_handled.new.case) c.run_handled.new.store c.run_handled.new.reports in
    let all = items_scene v c.args.handled.now.number o before hs c.requires.handled.items in
    let same = ap (λ (l : List Handled). scene_after_all v before (in_occurrence o (events_of l))) c.deref.ensures.value in
    let ran = rw c.requires.machine at c.run_handled.ensures.ended in
    on_ok_weaker c.run_handled.result (λ r. all_ran_scene v (in_occurrence o (events_of c.deref.result.now)) (Some c.args.case.now) (Some c.run_handled.new.case) c.args.store.now c.run_handled.new.store c.args.reports.now c.run_handled.new.reports r ∙ (same ∙ all)) ran

pub returns-clause-goes_on : goal.returns-clause-goes_on
returns-clause-goes_on g c =
    let v = c.args.verified.now in
    let case = Some c.args.case.now in
    let o = c.args.occurrence in
    let hs = c.args.handled.now.items.items in
    let there = items_there v.image (occurrences_in case) o c.args.handled.now.number hs c.requires.handled.items c.requires.low c.requires.high in
    let ran = rw (c.requires.machine, c.deref.ensures.value) at c.run_handled.ensures.ended in
    on_ok_weaker c.run_handled.result (all_ran_fits v c.event_ends.ensures c.args.case.now (in_occurrence o (events_of hs)) case (Some c.run_handled.new.case) c.args.store.now c.run_handled.new.store c.args.reports.now c.run_handled.new.reports c.requires.goes_on there) ran
