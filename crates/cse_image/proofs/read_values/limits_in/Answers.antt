use Rattle.std.proofs.lemmas.Result.{err_from_is_err_and}
use Rattle.cse_image.specs.Reading.{limit_at}
use Rattle.cse_image_parts.proofs.Loop.{many_step, many_done, many_faults}
use Rattle.cse_image.proofs.read_values.limits_in.Goals as goal

pub returns-in_err-limit : goal.returns-in_err-limit
returns-in_err-limit c =
    let p = err_from_is_err_and c.from_residual.result c.from_residual.ensures.1 in
    rw (p.1, p.2) (many_faults (λ _. limit_at) c.loop.limits.items c.args.count c.loop.counter c.loop.rest.now c.in_err-limit.field-0.0 _ c.loop-test.true c.in_err-limit.ensures c.loop.invariant)

pub loop-preserved : goal.loop-preserved
loop-preserved c =
    rw c.in_ok-push.ensures.items
    (many_step (λ _. limit_at) c.loop.limits.items c.args.count c.loop.counter c.loop.rest.now c.in_ok-limit.limit c.in_ok-limit.after.now _ c.loop-test.true c.in_ok-limit.ensures c.loop.invariant)

pub returns : goal.returns
returns c = many_done (λ _. limit_at) c.loop.limits.items c.args.count c.loop.counter c.loop.rest.now _ c.loop-test.false c.loop.invariant
