use Rattle.std.proofs.Common.{sym, ◌∙◌, arith}
use Rattle.cse_code_typing.proofs.PileLaws.{zero_empty}
use Rattle.cse_code_typing.proofs.DepthLaws.{drop_none, drop_one_more}
use Rattle.cse_code_typing.proofs.place_depth.without.Goals as goal

pub returns-in-None-clause-stack : goal.returns-in-None-clause-stack
returns-in-None-clause-stack c =
    let lt = c.kinds-test.true in
    zero_empty c.args.piles.now ∙ sym (drop_none _ c.kinds.counter c.args.count (sym c.kinds.invariant.rest_is ∙ c.in-None.ensures.stacks) (omega arith))

pub kinds-preserved : goal.kinds-preserved
kinds-preserved c =
    let less = c.in-Some.ensures.smaller in
    let within = c.kinds.invariant.within in
    record {
      within = omega arith;
      rest_is = sym (drop_one_more _ c.kinds.counter _ _ (sym c.kinds.invariant.rest_is ∙ c.in-Some.ensures.stacks));
    }
