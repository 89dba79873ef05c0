use Rattle.std.proofs.Common.{sym, ◌∙◌, refl, arith, below_more}
use Rattle.std.proofs.lemmas.Bool.{false≢true}
use Rattle.cse_code_typing.proofs.OrderLaws.{not_named, not_once, each_once}
use Rattle.cse_code_typing.proofs.order.names_each_once.Goals as goal

pub returns-then-not-are_below : goal.returns-then-not-are_below
returns-then-not-are_below c = ((λ no_way. absurd (false≢true no_way)), (λ names. absurd (not_named _ _ _ c.are_below.ensures c.if-not-are_below.true names)))

pub returns-then-count_of-ne1 : goal.returns-then-count_of-ne1
returns-then-count_of-ne1 c = ((λ no_way. absurd (false≢true no_way)), (λ names. absurd (not_once c.args.order.now c.args.count c.records.number c.records-test.true (λ e. c.if-count_of-ne1.true (c.count_of.ensures ∙ e)) names)))

pub returns : goal.returns
returns c = ((λ _. each_once c.args.order.now c.args.count c.records.number _ c.are_below.ensures c.if-not-are_below.false (let m = c.records-test.false in omega arith) c.records.invariant), (λ _. refl))

pub records-preserved : goal.records-preserved
records-preserved c = below_more _ _ c.records.invariant (sym c.count_of.ensures ∙ c.if-count_of-ne1.false)
