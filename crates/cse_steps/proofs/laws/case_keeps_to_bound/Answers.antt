use Rattle.cse_steps.proofs.Ends.{case_keeps}
use Rattle.cse_steps.proofs.laws.case_keeps_to_bound.Goals as goal

pub returns : goal.returns
returns g c = case_keeps c.args.verified.now c.program.ensures.may_run c.events_keep_to_case.ensures.case
