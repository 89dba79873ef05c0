use Rattle.std.proofs.Common.{[], take, map}
use Rattle.cse_image_parts.specs.Reader.{AllAfter}
use Rattle.cse_image.specs.Spelling.{MessageFits}
use Rattle.cse_image_parts.specs.Image.{message_lists}
use Rattle.cse_image.proofs.fitting.each_message_fits.Given as goal

abbrev pub invariant-loop-message : goal.invariant-loop-message
invariant-loop-message l = AllAfter (λ _. MessageFits) [] (map message_lists (take l.message-index l.messages))
