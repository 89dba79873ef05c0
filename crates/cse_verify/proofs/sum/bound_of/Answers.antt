use Rattle.std.proofs.Common.{◌≤◌, sym, ◌∙◌, subst, arith}
use Rattle.cse_code_typing.proofs.NestLaws.{top_is, top_there}
use Rattle.cse_verify.specs.Limit.{step_limit}
use Rattle.cse_verify.proofs.WeightLaws.{some_weights_at, top_weight}
use Rattle.cse_verify.proofs.SumLaws.{at_start, too_heavy, too_long, at_next}
use Rattle.cse_verify.proofs.sum.bound_of.Goals as goal

pub places-init : goal.places-init
places-init g c = at_start _ _ _ c.outermost-weights.ensures

pub at-weight-requires : goal.at-weight-requires
at-weight-requires g c = (omega arith, top_there _ (some_weights_at _ _ _ c.places.invariant.weights_are))

pub returns-then-weight-clause-too_long : goal.returns-then-weight-clause-too_long
returns-then-weight-clause-too_long g c = too_heavy _ _ _ _ _ _ _ c.places.invariant (sym c.at.ensures ∙ c.in-Some.is) (top_is _ _ c.at-weight.ensures) c.if-weight.true

pub returns-then-sum-clause-too_long : goal.returns-then-sum-clause-too_long
returns-then-sum-clause-too_long g c = too_long _ _ _ _ _ _ _ _ c.places.invariant (sym c.at.ensures ∙ c.in-Some.is) (top_is _ _ c.at-weight.ensures) c.cost_of.ensures.value c.if-sum.true

pub pass-requires-clause-small : goal.pass-requires-clause-small
pass-requires-clause-small g c = let heavy = top_weight _ _ _ _ c.places.invariant.weights_are (top_is _ _ c.at-weight.ensures) in let small = c.if-weight.false in subst (λ n. n ≤ step_limit) heavy small

pub places-preserved : goal.places-preserved
places-preserved g c = at_next _ _ _ _ _ _ _ _ _ c.places.invariant (sym c.at.ensures ∙ c.in-Some.is) (top_is _ _ c.at-weight.ensures) c.cost_of.ensures.value c.if-sum.false c.pass.ensures
