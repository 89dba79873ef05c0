use Rattle.std.proofs.Common.{sym, ap, ◌∙◌}
use Rattle.cse_value.specs.Shape.{shape_lists}
use Rattle.cse_image_parts.specs.Image.{routine_lists}
use Rattle.cse_code_typing.specs.Order.{is_handled_by}
use Rattle.cse_code_typing.proofs.ListedLaws.{got, lacks, got_of, lacks_of}
use Rattle.cse_code_typing.proofs.order.fits_event.Goals as goal

pub returns-in-None : goal.returns-in-None
returns-in-None c =
    let all = c.args.tables.now.routines.items in
    let n = c.args.event.routine in
    let none = lacks c.deref.result.now all n c.deref.ensures.value c.in-None.ensures.lookup.0 in
    sym (ap (is_handled_by (shape_lists c.args.shape.now) c.args.event) (lacks_of routine_lists all n none))

pub returns-in-Some : goal.returns-in-Some
returns-in-Some c =
    let all = c.args.tables.now.routines.items in
    let n = c.args.event.routine in
    let there = got c.deref.result.now all n c.in-Some.routine.now c.deref.ensures.value c.in-Some.ensures.lookup.0 c.in-Some.ensures.lookup.1 in
    c.handles.ensures ∙ sym (ap (is_handled_by (shape_lists c.args.shape.now) c.args.event) (got_of routine_lists all n c.in-Some.routine.now there))
