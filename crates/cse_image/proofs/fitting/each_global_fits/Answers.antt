use Rattle.std.proofs.lemmas.List.{get_or_default}
use Rattle.cse_image.specs.Spelling.{GlobalFits}
use Rattle.cse_image_parts.proofs.Places.{grow_plain, refuse_plain}
use Rattle.cse_image.proofs.fitting.each_global_fits.Goals as goal

pub returns-then-not-global_fits : goal.returns-then-not-global_fits
returns-then-not-global_fits c =
    let xs = c.args.globals.now in
    let i = c.loop-global.global-index in
    let h = c.global_fits.ensures in
    refuse_plain (λ _. GlobalFits) xs i _ c.global_fits.result c.loop-global-test.true (get_or_default xs i _ _ c.loop-global-test.true) h c.if-not-global_fits.true

pub loop-global-preserved : goal.loop-global-preserved
loop-global-preserved c =
    let xs = c.args.globals.now in
    let i = c.loop-global.global-index in
    let h = c.global_fits.ensures in
    grow_plain (λ _. GlobalFits) xs i _ c.loop-global-test.true (get_or_default xs i _ _ c.loop-global-test.true) c.loop-global.invariant (h.0 c.if-not-global_fits.false)
