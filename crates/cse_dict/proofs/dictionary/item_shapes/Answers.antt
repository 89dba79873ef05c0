use Rattle.std.proofs.Common.{ap}
use Rattle.cse_dict.proofs.Gathering.{all_parts, no_value, one_part_more}
use Rattle.cse_dict.proofs.dictionary.item_shapes.Goals as goal

pub returns-in_err-push : goal.returns-in_err-push
returns-in_err-push c = no_value _ c.from_residual.result c.from_residual.ensures.0

pub items-preserved : goal.items-preserved
items-preserved c =
    one_part_more (λ x. x.shape) c.items.shapes.items c.push.new.self.items c.args.items.now c.items.item-index c.item-item.result c.item.inside.shape
    c.items-test.true c.item-item.is c.items.invariant c.in_ok-push.ensures.items (ap (λ x. x.shape) c.item.view_is)

pub returns : goal.returns
returns c = all_parts (λ x. x.shape) c.items.shapes.items c.args.items.now c.items.item-index c.items-test.false c.items.invariant
