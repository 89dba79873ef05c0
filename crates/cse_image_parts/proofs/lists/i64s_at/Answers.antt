use Rattle.std.specs.Int.{w64}
use Rattle.std.proofs.lemmas.Int.{to_z-of_z}
use Rattle.std.proofs.lemmas.Result.{err_from_is_err_and}
use Rattle.cse_image_parts.specs.Reader.{signed}
use Rattle.cse_image_parts.proofs.Loop.{many_step, many_done, many_faults}
use Rattle.cse_image_parts.proofs.lists.i64s_at.Goals as goal

pub returns-in_err-n : goal.returns-in_err-n
returns-in_err-n c =
    let p = err_from_is_err_and c.from_residual.result c.from_residual.ensures.1 in
    rw (p.1, p.2) (many_faults (λ _. signed) c.loop.numbers.items c.args.count c.loop.counter c.loop.rest.now c.in_err-n.field-0.0 _ c.loop-test.true c.in_err-n.ensures.exact c.loop.invariant)

pub loop-preserved : goal.loop-preserved
loop-preserved c =
    let same = to_z-of_z w64 c.in_ok-n.n c.in_ok-n.ensures.fits in
    rw (c.in_ok-push.ensures.items, same)
    (many_step (λ _. signed) c.loop.numbers.items c.args.count c.loop.counter c.loop.rest.now c.in_ok-n.n c.in_ok-n.after.now _ c.loop-test.true c.in_ok-n.ensures.exact c.loop.invariant)

pub returns : goal.returns
returns c = many_done (λ _. signed) c.loop.numbers.items c.args.count c.loop.counter c.loop.rest.now _ c.loop-test.false c.loop.invariant
