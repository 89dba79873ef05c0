use Rattle.std.proofs.Common.{◌≡◌, arith, map}
use Rattle.std.proofs.lemmas.Result.{err_from_is_err_and}
use Rattle.std.proofs.lemmas.List.{map_push}
use Rattle.std.proofs.lemmas.List.Sums.{sum_by_push}
use Rattle.cse_image_parts.specs.Image.{array_lists}
use Rattle.cse_image_parts.specs.Fields.{product}
use Rattle.cse_image.specs.Reading.{array_at}
use Rattle.cse_image_parts.proofs.Loop.{many_step, many_done, many_ends}
use Rattle.cse_image.proofs.read_arrays.arrays_in.Goals as goal

pub returns-in_err-array : goal.returns-in_err-array
returns-in_err-array c =
    let p = err_from_is_err_and c.from_residual.result c.from_residual.ensures.1 in
    rw (p.1, p.2) (many_ends array_at (map array_lists c.loop.arrays.items) c.args.count c.loop.counter c.loop.rest.now c.in_err-array.field-0.0 _ c.loop-test.true (rw c.deref.ensures.value at c.in_err-array.ensures.exact) c.loop.invariant.reads)

pub loop-preserved : goal.loop-preserved
loop-preserved c =
    let x = c.in_ok-array.array in
    let own : c.cells_for-cells.result ≡ product x.dimensions.items = rw c.deref-in-loop.ensures.value at c.cells_for-cells.ensures in
    record {
      reads = rw (c.in_ok-push.ensures.items, map_push array_lists c.loop.arrays.items x)
          (many_step array_at (map array_lists c.loop.arrays.items) c.args.count c.loop.counter c.loop.rest.now (array_lists x) c.in_ok-array.after.now _ c.loop-test.true (rw c.deref.ensures.value at c.in_ok-array.ensures.exact) c.loop.invariant.reads);
      sum = rw (c.in_ok-push.ensures.items, map_push array_lists c.loop.arrays.items x) (omega (arith, own, c.loop.invariant.sum, sum_by_push (λ y. product y.dimensions) (map array_lists c.loop.arrays.items) (array_lists x)));
      small = omega (arith, own, c.in_ok-array.ensures.room);
    }

pub returns : goal.returns
returns c = many_done array_at (map array_lists c.loop.arrays.items) c.args.count c.loop.counter c.loop.rest.now _ c.loop-test.false c.loop.invariant.reads
