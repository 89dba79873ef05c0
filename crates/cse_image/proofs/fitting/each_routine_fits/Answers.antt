use Rattle.std.proofs.Common.{map, take}
use Rattle.cse_image_parts.specs.declared.version.Version.TheVariants as versions
use Rattle.cse_image.specs.Spelling.{RoutineFits}
use Rattle.cse_image_parts.specs.Image.{routine_lists}
use Rattle.cse_image_parts.specs.Fields.{instructions_in}
use Rattle.cse_image.proofs.Totals.{sum_next, room_left}
use Rattle.cse_image_parts.proofs.Places.{grow, refuse}
use Rattle.cse_image.proofs.fitting.each_routine_fits.Goals as goal

pub returns-then-not-routine_fits : goal.returns-then-not-routine_fits
returns-then-not-routine_fits c =
    refuse routine_lists (λ before. RoutineFits versions.Two (instructions_in before)) c.args.routines.now c.loop-routine.routine-index c.routine-item.result c.routine_fits.result c.loop-routine-test.true c.routine-item.is (rw c.loop-routine.invariant.sum at c.routine_fits.ensures) c.if-not-routine_fits.true

pub loop-routine-preserved : goal.loop-routine-preserved
loop-routine-preserved c =
    let xs = c.args.routines.now in
    let i = c.loop-routine.routine-index in
    let x = c.routine-item.result in
    let fits = (rw c.loop-routine.invariant.sum at c.routine_fits.ensures).0 c.if-not-routine_fits.false in
    record {
      each = grow routine_lists (λ before. RoutineFits versions.Two (instructions_in before)) xs i x c.loop-routine-test.true c.routine-item.is c.loop-routine.invariant.each fits;
      sum = sum_next routine_lists (λ r. r.instructions) xs i x c.loop-routine.so_far c.loop-routine-test.true c.routine-item.is c.loop-routine.invariant.sum;
      small = rw c.loop-routine.invariant.sum (room_left (instructions_in (map routine_lists (take i xs))) x.instructions fits.room);
    }
