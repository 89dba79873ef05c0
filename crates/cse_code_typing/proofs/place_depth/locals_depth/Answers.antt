use Rattle.std.proofs.Common.{sym, ◌∙◌, arith}
use Rattle.cse_code_typing.proofs.DepthLaws.{locals_more}
use Rattle.cse_code_typing.proofs.Few.{sum_few, counted_few}
use Rattle.cse_code_typing.proofs.place_depth.locals_depth.Goals as goal

pub locals-preserved : goal.locals-preserved
locals-preserved c = record {
  value = locals_more c.args.locals.now c.locals.i _ _ _ _ _ (sym c.local_at.ensures ∙ c.in-Some.is) c.kind_of_local.ensures c.one_of.ensures c.locals.invariant.value c.plus-total.ensures;
  few = sum_few _ _ _ _ _ c.plus-total.ensures c.locals.invariant.few (counted_few _ _ c.one_of.ensures);
}
