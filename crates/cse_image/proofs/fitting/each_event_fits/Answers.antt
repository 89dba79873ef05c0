use Rattle.cse_image.specs.Spelling.{EventFits}
use Rattle.cse_image_parts.specs.Fields.{last_event}
use Rattle.cse_image_parts.proofs.Places.{grow_plain, refuse_plain}
use Rattle.std.proofs.lemmas.List.{get_or_default}
use Rattle.cse_image.proofs.fitting.each_event_fits.Goals as goal

pub returns-then-not-event_fits : goal.returns-then-not-event_fits
returns-then-not-event_fits c =
    let xs = c.args.events.now in
    let i = c.loop-i.i in
    refuse_plain (λ before. EventFits (last_event before)) xs i _ c.event_fits.result c.loop-i-test.true (get_or_default xs i _ _ c.loop-i-test.true) (rw c.last_of.ensures at c.event_fits.ensures) c.if-not-event_fits.true

pub loop-i-preserved : goal.loop-i-preserved
loop-i-preserved c =
    let xs = c.args.events.now in
    let i = c.loop-i.i in
    grow_plain (λ before. EventFits (last_event before)) xs i _ c.loop-i-test.true (get_or_default xs i _ _ c.loop-i-test.true) c.loop-i.invariant ((rw c.last_of.ensures at c.event_fits.ensures).0 c.if-not-event_fits.false)
