use Rattle.std.proofs.Common.{Some, [], ◌∷◌, ◌∙◌, ap, refl, subst, sym}
use Rattle.std.proofs.lemmas.Result.{on_ok_weaker}
use Rattle.cse_verify.specs.CaseEvents.{moment}
use Rattle.cse_code_typing.specs.Handlers.{routine_of}
use Rattle.cse_steps.specs.Results.{AllFitFirst}
use Rattle.cse_verify.specs.Verified.{VerifiedProgram}
use Rattle.cse_steps.specs.State.{world_of}
use Rattle.cse_batch_parts.proofs.SceneLaws.{all_fit, all_ran_fits, all_ran_scene}
use Rattle.cse_batch_parts.proofs.events.run_event.Goals as goal

pub run_handled-requires-clause-handled : goal.run_handled-requires-clause-handled
run_handled-requires-clause-handled g c = (ap (λ (p : VerifiedProgram). routine_of p.image.lists.events c.args.event) c.requires.machine ∙ c.requires.routine, tt)

pub run_handled-requires-clause-fits : goal.run_handled-requires-clause-fits
run_handled-requires-clause-fits g c =
    let v = c.args.verified.now in
    let case = Some c.args.case.now in
    let store = c.args.store.now in
    let m = moment c.args.event.code c.args.event.index 0 in
    let fit = all_fit v case (world_of case store) (m ∷ []) refl c.requires.goes_on (c.requires.there, tt) in
    subst (λ (p : VerifiedProgram). AllFitFirst p (m ∷ []) case store) (sym c.requires.machine) fit

pub returns-clause-scene : goal.returns-clause-scene
returns-clause-scene g c =
    let v = c.args.verified.now in
    let m = moment c.args.event.code c.args.event.index 0 in
    let ran = rw c.requires.machine at c.run_handled.ensures.ended in
    on_ok_weaker c.run_handled.result (all_ran_scene v (m ∷ []) (Some c.args.case.now) (Some c.run_handled.new.case) c.args.store.now c.run_handled.new.store c.args.reports.now c.run_handled.new.reports) ran

pub returns-clause-goes_on : goal.returns-clause-goes_on
returns-clause-goes_on g c =
    let v = c.args.verified.now in
    let case = Some c.args.case.now in
    let m = moment c.args.event.code c.args.event.index 0 in
    let ran = rw c.requires.machine at c.run_handled.ensures.ended in
    on_ok_weaker c.run_handled.result (all_ran_fits v c.event_ends.ensures c.args.case.now (m ∷ []) case (Some c.run_handled.new.case) c.args.store.now c.run_handled.new.store c.args.reports.now c.run_handled.new.reports c.requires.goes_on (c.requires.there, tt)) ran
