use Rattle.cse_image_parts.specs.Image.{lists_of}
use Rattle.cse_verify.proofs.EventLaws.{case_too_many}
use Rattle.cse_verify.proofs.events.sum_of_case.Goals as goal

pub returns-then-sum-clause-too_many : goal.returns-then-sum-clause-too_many
returns-then-sum-clause-too_many c =
    case_too_many (lists_of c.args.tables.now) _ _ _ _ _ _ _ c.deref-event-items.ensures.value c.events-test.true c.events.invariant.total_is c.times_in_case-times.ensures c.bound_at.ensures.value c.if-sum.true
