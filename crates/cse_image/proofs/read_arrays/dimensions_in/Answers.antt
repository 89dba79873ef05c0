use Rattle.std.proofs.Common.{◌≡◌, ◌≤◌, ◌+◌, ◌++◌, arith, length, length-append, ◌∷◌, []}
use Rattle.std.proofs.lemmas.Result.{err_from_is_err_and}
use Rattle.cse_image_parts.specs.Fields.{product}
use Rattle.cse_image.specs.Reading.{dimension_at}
use Rattle.cse_image_parts.proofs.Loop.{many_step, many_done, many_faults}
use Rattle.cse_image.proofs.read_arrays.dimensions_in.Goals as goal

pub returns-in_err-dimension-clause-exact : goal.returns-in_err-dimension-clause-exact
returns-in_err-dimension-clause-exact c =
    let p = err_from_is_err_and c.from_residual.result c.from_residual.ensures.1 in
    rw (p.1, p.2) (many_faults (dimension_at c.args.cells c.args.rank) c.loop.dimensions.items c.args.rank c.loop.counter c.loop.rest.now c.in_err-dimension.field-0.0 _ c.loop-test.true (rw c.deref.ensures.value at c.in_err-dimension.ensures.exact) c.loop.invariant.reads)

pub loop-preserved : goal.loop-preserved
loop-preserved c =
    let items = c.in_ok-push.ensures.items in
    let here = rw c.deref.ensures.value at c.in_ok-dimension.ensures.exact in
    let room : length c.loop.dimensions.items + 1 ≡ c.args.rank → c.args.cells + product (c.loop.dimensions.items ++ c.in_ok-dimension.dimension ∷ []) ≤ 1000000
    = rw c.deref.ensures.value at c.in_ok-dimension.ensures.room in
    record {
      reads = rw items (many_step (dimension_at c.args.cells c.args.rank) c.loop.dimensions.items c.args.rank c.loop.counter c.loop.rest.now c.in_ok-dimension.dimension c.in_ok-dimension.after.now _ c.loop-test.true here c.loop.invariant.reads);
      count = rw items (omega (arith, c.loop.invariant.count, length-append c.loop.dimensions.items (c.in_ok-dimension.dimension ∷ [])));
      room = λ some last. rw items (room (omega (arith, last, c.loop.invariant.count)));
    }

pub returns-clause-exact : goal.returns-clause-exact
returns-clause-exact c = many_done (dimension_at c.args.cells c.args.rank) c.loop.dimensions.items c.args.rank c.loop.counter c.loop.rest.now _ c.loop-test.false c.loop.invariant.reads
