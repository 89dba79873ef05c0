use Rattle.std.proofs.Common.{Some, sym, ◌∙◌}
use Rattle.cse_verify.specs.CaseEvents.{moment}
use Rattle.cse_batch_parts.specs.Scene.{scene}
use Rattle.cse_batch_parts.proofs.HandledLaws.{not_handled, routine_is, scene_unhandled}
use Rattle.cse_batch_parts.proofs.events.run_if_handled.Goals as goal

pub returns-in_default-clause-scene : goal.returns-in_default-clause-scene
returns-in_default-clause-scene g c =
    sym (scene_unhandled c.args.verified.now (scene (Some c.args.case.now) c.args.store.now c.args.reports.now) (moment c.args.event.code c.args.event.index 0) (not_handled c.args.verified.now.image c.args.event (sym c.requires.handled ∙ c.in_default.is)))

pub run_event-requires-clause-routine : goal.run_event-requires-clause-routine
run_event-requires-clause-routine g c = routine_is c.args.verified.now.image c.args.event c.in-Some.handled (sym c.requires.handled ∙ c.in-Some.is)
