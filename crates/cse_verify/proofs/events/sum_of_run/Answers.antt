use Rattle.std.proofs.Common.{arith}
use Rattle.cse_verify.proofs.EventLaws.{run_fits}
use Rattle.cse_verify.proofs.events.sum_of_run.Goals as goal

pub overflow_add-total : goal.overflow_add-total
overflow_add-total c =
    let le = run_fits _ _ _ _ _ _ _ c.events-test.true c.events.invariant c.times_in_run.ensures.value c.bound_at.ensures.value in
    let fits = c.requires.fits in
    omega arith
