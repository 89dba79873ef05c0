use Rattle.std.proofs.Common.{[], take}
use Rattle.cse_image_parts.specs.Reader.{AllAfter}
use Rattle.cse_image.specs.Spelling.{EventFits}
use Rattle.cse_image_parts.specs.Fields.{last_event}
use Rattle.cse_image.proofs.fitting.each_event_fits.Given as goal

abbrev pub invariant-loop-i : goal.invariant-loop-i
invariant-loop-i l = AllAfter (λ before. EventFits (last_event before)) [] (take l.i l.events)
