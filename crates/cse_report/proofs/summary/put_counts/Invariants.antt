use Rattle.std.proofs.Common.{take}
use Rattle.std.specs.Prelude.{map}
use Rattle.cse_image_parts.specs.Image.{message_lists}
use Rattle.cse_value.specs.Gathering.{behind, Puts}
use Rattle.cse_report.specs.Listing.{count_lines}
use Rattle.cse_report.proofs.summary.put_counts.Given as goal

-- the messages so far
abbrev pub invariant-messages : goal.invariant-messages
invariant-messages g l =
    Puts (behind g.W.Output.taken g.W.Output.has_failed l.fn.out l.fn.gatherer)
    (behind g.W.Output.taken g.W.Output.has_failed l.out l.gatherer)
    (count_lines (map message_lists (take l.i l.messages)) (take l.i l.counts))
