use Rattle.std.proofs.Common.{Option, ap, ◌∙◌}
use Rattle.cse_value.specs.declared.shape.ItemShape.{ItemShape}
use Rattle.cse_image_parts.specs.Image.{routine_lists}
use Rattle.cse_code_typing.specs.Order.{handles_item}
use Rattle.cse_code_typing.proofs.ListedLaws.{got_copy}
use Rattle.cse_code_typing.proofs.order.handles.Goals as goal

pub returns-in-ItemPreproc : goal.returns-in-ItemPreproc
returns-in-ItemPreproc c =
    let there = got_copy c.deref.result.now c.args.shape.now.items.items c.args.index c.get.result c.deref.ensures.value c.get.ensures.lookup.0 c.get.ensures.lookup.1 in
    rw c.in-ItemPreproc.is (c.handles_item.ensures ∙ ap (λ (o : Option ItemShape). handles_item o (routine_lists c.args.routine.now)) (c.copied.ensures ∙ there))

pub returns-in-ItemPostproc : goal.returns-in-ItemPostproc
returns-in-ItemPostproc c =
    let there = got_copy c.deref-in-ItemPostproc.result.now c.args.shape.now.items.items c.args.index c.get-in-ItemPostproc.result c.deref-in-ItemPostproc.ensures.value c.get-in-ItemPostproc.ensures.lookup.0 c.get-in-ItemPostproc.ensures.lookup.1 in
    rw c.in-ItemPostproc.is (c.handles_item-in-ItemPostproc.ensures ∙ ap (λ (o : Option ItemShape). handles_item o (routine_lists c.args.routine.now)) (c.copied-in-ItemPostproc.ensures ∙ there))
