use Rattle.std.proofs.Common.{map}
use Rattle.std.proofs.lemmas.Result.{err_from_is_err_and}
use Rattle.std.proofs.lemmas.List.{map_push}
use Rattle.cse_image_parts.proofs.Loop.{many_step, many_done, many_ends}
use Rattle.cse_image.proofs.read_entries.entries_of.Goals as goal

pub returns-in_err-entry : goal.returns-in_err-entry
returns-in_err-entry g c =
    let E = g.E.Readable in
    let p = err_from_is_err_and c.from_residual.result c.from_residual.ensures.1 in
    rw (p.1, p.2) (many_ends E.reader (map E.seen c.loop.entries.items) c.args.count c.loop.counter c.loop.rest.now c.in_err-entry.field-0.0 _ c.loop-test.true (rw c.deref.ensures.value at c.in_err-entry.ensures) c.loop.invariant)

pub loop-preserved : goal.loop-preserved
loop-preserved g c =
    let E = g.E.Readable in
    let x = c.in_ok-entry.entry in
    rw (c.in_ok-push.ensures.items, map_push E.seen c.loop.entries.items x)
    (many_step E.reader (map E.seen c.loop.entries.items) c.args.count c.loop.counter c.loop.rest.now (E.seen x) c.in_ok-entry.after.now _ c.loop-test.true (rw c.deref.ensures.value at c.in_ok-entry.ensures) c.loop.invariant)

pub returns : goal.returns
returns g c = let E = g.E.Readable in many_done E.reader (map E.seen c.loop.entries.items) c.args.count c.loop.counter c.loop.rest.now _ c.loop-test.false c.loop.invariant
