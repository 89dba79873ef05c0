use Rattle.std.proofs.Common.{◌≡◌, ◌<◌, true, false, length, get_or, refl, sym, ap, ◌∙◌, arith}
use Rattle.std.proofs.lemmas.List.Folds.{list_all_at, list_all_more}
use Rattle.cse_image_parts.specs.Image.{lists_of}
use Rattle.cse_value.specs.Shape.{shape_lists}
use Rattle.cse_code_typing.specs.Order.{fits_event}
use Rattle.cse_code_typing.proofs.order.all_events_fit.Goals as goal

pub events-preserved : goal.events-preserved
events-preserved c =
    let fits = fits_event (shape_lists c.args.shape.now) (lists_of c.args.tables.now) in
    let items = c.args.tables.now.events.items in
    let x = c.index.result.now in
    let n = c.len-i-end.ensures in
    let m = c.events-test.true in
    let lt : c.events.i < length items = omega arith in
    let pass : fits (get_or items c.events.i x) ≡ true = ap fits (sym c.index.ensures) ∙ sym c.fits_event.ensures ∙ c.if-not-fits_event.false in
    list_all_more fits items c.events.i x lt ∙ rw (c.events.invariant, pass) refl

pub returns-then-not-fits_event : goal.returns-then-not-fits_event
returns-then-not-fits_event c =
    let fits = fits_event (shape_lists c.args.shape.now) (lists_of c.args.tables.now) in
    let items = c.args.tables.now.events.items in
    let x = c.index.result.now in
    let n = c.len-i-end.ensures in
    let m = c.events-test.true in
    let lt : c.events.i < length items = omega arith in
    let fail : fits (get_or items c.events.i x) ≡ false = ap fits (sym c.index.ensures) ∙ sym c.fits_event.ensures ∙ c.if-not-fits_event.true in
    sym (list_all_at fits items c.events.i x lt fail)
