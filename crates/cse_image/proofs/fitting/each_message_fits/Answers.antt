use Rattle.cse_image.specs.Spelling.{MessageFits}
use Rattle.cse_image_parts.specs.Image.{message_lists}
use Rattle.cse_image_parts.proofs.Places.{grow, refuse}
use Rattle.cse_image.proofs.fitting.each_message_fits.Goals as goal

pub returns-then-not-message_fits : goal.returns-then-not-message_fits
returns-then-not-message_fits c =
    let h = c.message_fits.ensures in
    refuse message_lists (λ _. MessageFits) c.args.messages.now c.loop-message.message-index c.message-item.result c.message_fits.result c.loop-message-test.true c.message-item.is h c.if-not-message_fits.true

pub loop-message-preserved : goal.loop-message-preserved
loop-message-preserved c =
    let h = c.message_fits.ensures in
    grow message_lists (λ _. MessageFits) c.args.messages.now c.loop-message.message-index c.message-item.result c.loop-message-test.true c.message-item.is c.loop-message.invariant (h.0 c.if-not-message_fits.false)
