use Rattle.std.proofs.Common.{[], take}
use Rattle.cse_image_parts.specs.Reader.{AllAfter}
use Rattle.cse_image.specs.Spelling.{GlobalFits}
use Rattle.cse_image.proofs.fitting.each_global_fits.Given as goal

abbrev pub invariant-loop-global : goal.invariant-loop-global
invariant-loop-global l = AllAfter (λ _. GlobalFits) [] (take l.global-index l.globals)
