use Rattle.std.proofs.Common.{◌-◌, arith}
use Rattle.std.proofs.lemmas.Bool.{both_ways}
use Rattle.cse_code_typing.proofs.Inside.{none_from_end, one_place_more}
use Rattle.cse_code_typing.proofs.innermost.begins_none_between.Goals as goal

pub outward-init : goal.outward-init
outward-init g c = none_from_end c.args.code.now c.args.to

pub returns-then-is_around-clause-one : goal.returns-then-is_around-clause-one
returns-then-is_around-clause-one g c = λ never. absurd (never (c.outward.opener - 1) (let lt = c.outward-test.true in omega arith) (c.is_around.ensures.0 c.if-is_around.true))

pub outward-preserved : goal.outward-preserved
outward-preserved g c =
    one_place_more c.args.code.now c.args.to c.outward.opener (let lt = c.outward-test.true in omega arith) c.outward.invariant
    (λ a. both_ways _ c.if-is_around.false (c.is_around.ensures.1 a))

pub returns-clause-none : goal.returns-clause-none
returns-clause-none g c = λ yes s le a. c.outward.invariant s (let past = c.outward-test.false in omega arith) a
