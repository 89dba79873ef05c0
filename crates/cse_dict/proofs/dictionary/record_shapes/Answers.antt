use Rattle.std.proofs.Common.{ap}
use Rattle.cse_dict.proofs.Gathering.{all_parts, no_value, one_part_more}
use Rattle.cse_dict.proofs.dictionary.record_shapes.Goals as goal

pub returns-in_err-push : goal.returns-in_err-push
returns-in_err-push c = no_value _ c.from_residual.result c.from_residual.ensures.0

pub records-preserved : goal.records-preserved
records-preserved c =
    one_part_more (λ x. x.shape) c.records.shapes.items c.push.new.self.items c.args.records.now c.records.record-index c.record-item.result c.record.inside.shape
    c.records-test.true c.record-item.is c.records.invariant c.in_ok-push.ensures.items (ap (λ x. x.shape) c.record.view_is)

pub returns : goal.returns
returns c = all_parts (λ x. x.shape) c.records.shapes.items c.args.records.now c.records.record-index c.records-test.false c.records.invariant
