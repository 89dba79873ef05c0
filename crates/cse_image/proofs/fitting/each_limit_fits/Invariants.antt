use Rattle.std.proofs.Common.{[], take}
use Rattle.cse_image_parts.specs.Reader.{AllAfter}
use Rattle.cse_image.specs.Spelling.{LimitFits}
use Rattle.cse_image.proofs.fitting.each_limit_fits.Given as goal

abbrev pub invariant-loop-limit : goal.invariant-loop-limit
invariant-loop-limit l = AllAfter (λ _. LimitFits) [] (take l.limit-index l.limits)
