use Rattle.std.proofs.Common.{◌+◌, ◌-◌, ◌/◌, refl, sym, ◌∙◌, arith}
use Rattle.cse_code_typing.proofs.HandlerLaws.{upper_half, lower_half}
use Rattle.cse_code_typing.proofs.handlers.place_of.Goals as goal

pub halves-preserved-then-event_order-order : goal.halves-preserved-then-event_order-order
halves-preserved-then-event_order-order c =
    let some = c.halves-test.true in
    upper_half c.args.events.now c.args.order c.halves.from c.halves.to (c.halves.from + (c.halves.to - c.halves.from) / 2) _ c.in-Some.entry
    (record { rises = c.requires }) c.halves.invariant (sym c.entry_at.ensures ∙ c.in-Some.is) (omega arith)
    (let a = c.event_order.ensures in let t = c.if-event_order-order.true in omega arith) refl

pub halves-preserved : goal.halves-preserved
halves-preserved c =
    let some = c.halves-test.true in
    lower_half c.args.events.now c.args.order c.halves.from c.halves.to (c.halves.from + (c.halves.to - c.halves.from) / 2) c.in-Some.entry
    (record { rises = c.requires }) c.halves.invariant (sym c.entry_at.ensures ∙ c.in-Some.is) (omega arith)
    (let a = c.event_order.ensures in let t = c.if-event_order-order.false in omega arith)

pub returns-clause-before : goal.returns-clause-before
returns-clause-before c = c.halves.invariant.below

pub returns-clause-after : goal.returns-clause-after
returns-clause-after c = λ k a at le. c.halves.invariant.above k a at (let end = c.halves-test.false in omega arith)

pub returns-clause-within : goal.returns-clause-within
returns-clause-within c = let n = c.halves.invariant.within in let m = c.halves.invariant.there in omega arith
