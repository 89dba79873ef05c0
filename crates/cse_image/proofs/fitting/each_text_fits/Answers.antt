use Rattle.cse_image.specs.Spelling.{TextFits}
use Rattle.std.specs.String.{string_bytes}
use Rattle.cse_image_parts.proofs.Places.{grow, refuse}
use Rattle.cse_image.proofs.fitting.each_text_fits.Goals as goal

pub returns-then-not-text_fits : goal.returns-then-not-text_fits
returns-then-not-text_fits c =
    let h = (rw c.deref.ensures at c.text_fits.ensures) in
    refuse string_bytes (λ _. TextFits) c.args.texts.now c.loop-text.text-index c.text-item.result c.text_fits.result c.loop-text-test.true c.text-item.is h c.if-not-text_fits.true

pub loop-text-preserved : goal.loop-text-preserved
loop-text-preserved c =
    let h = (rw c.deref.ensures at c.text_fits.ensures) in
    grow string_bytes (λ _. TextFits) c.args.texts.now c.loop-text.text-index c.text-item.result c.loop-text-test.true c.text-item.is c.loop-text.invariant (h.0 c.if-not-text_fits.false)
