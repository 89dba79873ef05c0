use Rattle.std.proofs.lemmas.List.{get_or_default}
use Rattle.cse_image.specs.Spelling.{LimitFits}
use Rattle.cse_image_parts.proofs.Places.{grow_plain, refuse_plain}
use Rattle.cse_image.proofs.fitting.each_limit_fits.Goals as goal

pub returns-then-not-limit_fits : goal.returns-then-not-limit_fits
returns-then-not-limit_fits c =
    let xs = c.args.limits.now in
    let i = c.loop-limit.limit-index in
    let h = c.limit_fits.ensures in
    refuse_plain (λ _. LimitFits) xs i _ c.limit_fits.result c.loop-limit-test.true (get_or_default xs i _ _ c.loop-limit-test.true) h c.if-not-limit_fits.true

pub loop-limit-preserved : goal.loop-limit-preserved
loop-limit-preserved c =
    let xs = c.args.limits.now in
    let i = c.loop-limit.limit-index in
    let h = c.limit_fits.ensures in
    grow_plain (λ _. LimitFits) xs i _ c.loop-limit-test.true (get_or_default xs i _ _ c.loop-limit-test.true) c.loop-limit.invariant (h.0 c.if-not-limit_fits.false)
