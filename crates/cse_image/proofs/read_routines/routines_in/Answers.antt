use Rattle.std.proofs.Common.{arith, map}
use Rattle.std.proofs.lemmas.Result.{err_from_is_err_and}
use Rattle.std.proofs.lemmas.List.{map_push}
use Rattle.std.proofs.lemmas.List.Sums.{sum_by_push}
use Rattle.cse_image_parts.specs.Image.{routine_lists}
use Rattle.cse_image_parts.specs.Fields.{instructions_in}
use Rattle.cse_image.specs.Reading.{routine_at}
use Rattle.cse_image_parts.proofs.Loop.{many_step, many_done, many_ends}
use Rattle.cse_image.proofs.read_routines.routines_in.Goals as goal

pub returns-in_err-routine-clause-exact : goal.returns-in_err-routine-clause-exact
returns-in_err-routine-clause-exact c =
    let p = err_from_is_err_and c.from_residual.result c.from_residual.ensures.1 in
    rw (p.1, p.2) (many_ends (λ before. routine_at c.args.version (instructions_in before)) (map routine_lists c.loop.routines.items) c.args.count c.loop.counter c.loop.rest.now c.in_err-routine.field-0.0 _ c.loop-test.true
    (rw c.loop.invariant.sum at c.in_err-routine.ensures.exact) c.loop.invariant.reads)

pub loop-preserved : goal.loop-preserved
loop-preserved c =
    let r = c.in_ok-routine.routine in
    record {
      reads = rw (c.in_ok-push.ensures.items, map_push routine_lists c.loop.routines.items r)
          (many_step (λ before. routine_at c.args.version (instructions_in before)) (map routine_lists c.loop.routines.items) c.args.count c.loop.counter c.loop.rest.now (routine_lists r) c.in_ok-routine.after.now _ c.loop-test.true
          (rw c.loop.invariant.sum at c.in_ok-routine.ensures.exact) c.loop.invariant.reads);
      sum = rw (c.in_ok-push.ensures.items, map_push routine_lists c.loop.routines.items r) (omega (arith, c.loop.invariant.sum, sum_by_push (λ x. x.instructions) (map routine_lists c.loop.routines.items) (routine_lists r)));
      small = c.in_ok-routine.ensures.room;
    }

pub returns-clause-exact : goal.returns-clause-exact
returns-clause-exact c = many_done (λ before. routine_at c.args.version (instructions_in before)) (map routine_lists c.loop.routines.items) c.args.count c.loop.counter c.loop.rest.now _ c.loop-test.false c.loop.invariant.reads
