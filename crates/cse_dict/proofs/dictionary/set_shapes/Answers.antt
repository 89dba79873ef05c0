use Rattle.std.proofs.Common.{ap}
use Rattle.cse_dict.proofs.Gathering.{all_parts, no_value, one_part_more}
use Rattle.cse_dict.proofs.dictionary.set_shapes.Goals as goal

pub returns-in_err-push : goal.returns-in_err-push
returns-in_err-push c = no_value _ c.from_residual.result c.from_residual.ensures.0

pub sets-preserved : goal.sets-preserved
sets-preserved c =
    one_part_more (λ x. x.shape) c.sets.shapes.items c.push.new.self.items c.args.sets.now c.sets.set-index c.set-item.result c.set.inside.shape
    c.sets-test.true c.set-item.is c.sets.invariant c.in_ok-push.ensures.items (ap (λ x. x.shape) c.set.view_is)

pub returns : goal.returns
returns c = all_parts (λ x. x.shape) c.sets.shapes.items c.args.sets.now c.sets.set-index c.sets-test.false c.sets.invariant
