use Rattle.std.proofs.Common.{◌<◌, ◌≤◌, ◌^◌, arith, rules}
use Rattle.cse_code_typing.proofs.NestLaws.{top_is, top_there}
use Rattle.cse_verify.specs.Limit.{step_limit}
use Rattle.cse_verify.proofs.WeightLaws.{small_product, some_weights_at, top_weight, room_for_weight, weights_open, weights_end, weights_plain}
use Rattle.cse_verify.proofs.sum.pass.Goals as goal

pub at-weight-requires : goal.at-weight-requires
at-weight-requires g c = (omega arith, top_there _ (some_weights_at _ _ _ c.requires.weights))

pub overflow_mul-limit : goal.overflow_mul-limit
overflow_mul-limit g c =
    let few : c.in-Open.limit < 2 ^ 32 = omega arith in
    let heavy = top_weight _ _ _ _ c.requires.weights (top_is _ _ c.at-weight.ensures) in
    let small : c.at-weight.result ≤ step_limit = let s = c.requires.small in omega arith in
    let fits = small_product c.in-Open.limit c.at-weight.result few small in
    search rules

pub push-requires : goal.push-requires
push-requires g c = (omega arith, room_for_weight _ c.requires.keeps _ _ c.requires.there _ _ _ c.in-Open.is c.requires.weights)

pub pop-requires : goal.pop-requires
pop-requires g c = (omega arith, some_weights_at _ _ _ c.requires.weights)

pub returns-in-Open : goal.returns-in-Open
returns-in-Open g c = weights_open _ c.requires.keeps _ _ c.requires.there _ _ _ _ _ c.in-Open.is c.requires.weights (top_is _ _ c.at-weight.ensures) c.push.ensures

pub returns-in-End : goal.returns-in-End
returns-in-End g c = weights_end _ c.requires.keeps _ _ c.requires.there _ _ _ c.in-End.is c.requires.weights c.pop.ensures

pub returns-in_default : goal.returns-in_default
returns-in_default g c = weights_plain _ c.requires.keeps _ _ c.requires.there _ c.in_default.not-Open c.in_default.not-End c.requires.weights
