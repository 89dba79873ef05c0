use Rattle.cse_batch_parts.proofs.CloseLaws.{halts_last, ran}
use Rattle.cse_batch_parts.proofs.running.run_around_cases.Goals as goal

pub returns-clause-ok : goal.returns-clause-ok
returns-clause-ok g c = ran _ _ _ _ _ _ _ _ _ _ _ _ c.in_ok-totals.ensures.ok c.in-Ok.ensures.keeps

pub returns-in_default-clause-err : goal.returns-in_default-clause-err
returns-in_default-clause-err g c = halts_last _ _ _ _ _ _ _ _ _ _ c.in_ok-totals.ensures.ok c.in_default.ensures.err
