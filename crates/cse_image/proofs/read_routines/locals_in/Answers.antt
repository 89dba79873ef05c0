use Rattle.std.proofs.Common.{arith, length, length-append, ◌∷◌, []}
use Rattle.std.proofs.lemmas.Result.{err_from_is_err_and}
use Rattle.cse_image.specs.Reading.{local_at}
use Rattle.cse_image_parts.proofs.Loop.{many_step, many_done, many_faults}
use Rattle.cse_image.proofs.read_routines.locals_in.Goals as goal

pub returns-in_err-local : goal.returns-in_err-local
returns-in_err-local c =
    let p = err_from_is_err_and c.from_residual.result c.from_residual.ensures.1 in
    rw (p.1, p.2) (many_faults (λ before. local_at c.args.parameters (length before)) c.loop-index.locals.items c.args.count c.loop-index.index c.loop-index.rest.now c.in_err-local.field-0.0 _ c.loop-index-test.true (rw (← c.loop-index.invariant.count) at c.in_err-local.ensures) c.loop-index.invariant.reads)

pub loop-index-preserved : goal.loop-index-preserved
loop-index-preserved c = record {
  reads = rw c.in_ok-push.ensures.items
      (many_step (λ before. local_at c.args.parameters (length before)) c.loop-index.locals.items c.args.count c.loop-index.index c.loop-index.rest.now c.in_ok-local.local c.in_ok-local.after.now _ c.loop-index-test.true (rw (← c.loop-index.invariant.count) at c.in_ok-local.ensures) c.loop-index.invariant.reads);
  count = rw c.in_ok-push.ensures.items (omega (arith, c.loop-index.invariant.count, length-append c.loop-index.locals.items (c.in_ok-local.local ∷ [])));
}

pub returns : goal.returns
returns c = many_done (λ before. local_at c.args.parameters (length before)) c.loop-index.locals.items c.args.count c.loop-index.index c.loop-index.rest.now _ c.loop-index-test.false c.loop-index.invariant.reads
