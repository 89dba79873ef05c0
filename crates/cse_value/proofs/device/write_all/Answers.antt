use Rattle.std.proofs.Common.{rules, take-add}
use Rattle.std.proofs.lemmas.List.{take_rest}
use Rattle.std.proofs.lemmas.Result.{err_from_is_err_and}
use Rattle.cse_value.proofs.WriteLaws.{Appends-trans, Appends-kept, AppendsFront-take}
use Rattle.cse_value.proofs.device.write_all.Goals as goal

pub loop-at-preserved : goal.loop-at-preserved
loop-at-preserved g c = record {
  in_range = search rules;
  bytes = rw take-add (rw take_rest at (Appends-trans _ _ _ _ _ c.loop-at.invariant.bytes c.in_ok-at.ensures.bytes));
  sound = cc (c.in_ok-at.ensures.failed, c.in_ok-at.ensures.for_good);
}

pub returns-in_err-at-clause-bytes : goal.returns-in_err-at-clause-bytes
returns-in_err-at-clause-bytes g c =
    let p = err_from_is_err_and c.from_residual.result c.from_residual.ensures.1 in
    rw (p.1) (AppendsFront-take _ _ _ c.loop-at.at (Appends-kept _ _ _ _ c.loop-at.invariant.bytes c.in_err-at.ensures.bytes))
