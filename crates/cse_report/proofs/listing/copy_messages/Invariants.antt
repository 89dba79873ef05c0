use Rattle.std.proofs.Common.{◌≡◌, take}
use Rattle.std.specs.Prelude.{map}
use Rattle.cse_image_parts.specs.Image.{message_lists}
use Rattle.cse_report.proofs.listing.copy_messages.Given as goal

-- messages so far
abbrev pub invariant-messages : goal.invariant-messages
invariant-messages l = map message_lists l.copies.items ≡ map message_lists (take l.message-index l.messages)
