use Rattle.std.proofs.Common.{◌≡◌, ◌+◌, map, take, leb, true}
use Rattle.std.proofs.lemmas.Bool.{leb-true}
use Rattle.cse_image_parts.specs.Image.{array_lists}
use Rattle.cse_image_parts.specs.Fields.{product, cells_in}
use Rattle.cse_image.specs.Spelling.{ArrayFits}
use Rattle.cse_image_parts.proofs.Places.{grow, refuse}
use Rattle.cse_image.proofs.Totals.{sum_next}
use Rattle.cse_image.proofs.fitting.each_array_fits.Goals as goal

pub returns-then-not-array_fits : goal.returns-then-not-array_fits
returns-then-not-array_fits c =
    let h = c.array_fits.ensures in
    refuse array_lists ArrayFits c.args.arrays.now c.loop-i.i c.index-arrays-i.result c.array_fits.result c.loop-i-test.true c.index-arrays-i.is h c.if-not-array_fits.true

pub loop-i-preserved : goal.loop-i-preserved
loop-i-preserved c =
    let xs = c.args.arrays.now in
    let i = c.loop-i.i in
    let x = c.index-arrays-i.result in
    let h = c.array_fits.ensures in
    let fits = h.0 c.if-not-array_fits.false in
    let own : c.cells_for-cells.result ≡ product x.dimensions.items = rw c.deref.ensures.value at c.cells_for-cells.ensures in
    let room : leb (cells_in (map array_lists (take i xs)) + product x.dimensions.items) 1000000 ≡ true = fits.room in
    record {
      each = grow array_lists ArrayFits xs i x c.loop-i-test.true c.index-arrays-i.is c.loop-i.invariant.each fits;
      sum = rw own (sum_next array_lists (λ y. product y.dimensions) xs i x c.loop-i.cells c.loop-i-test.true c.index-arrays-i.is c.loop-i.invariant.sum);
      small = rw (own, c.loop-i.invariant.sum) (leb-true (cells_in (map array_lists (take i xs)) + product x.dimensions.items) 1000000 room);
    }
