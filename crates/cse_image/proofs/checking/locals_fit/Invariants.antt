use Rattle.std.proofs.Common.{[], take, length}
use Rattle.cse_image_parts.specs.Reader.{AllAfter}
use Rattle.cse_image.specs.Spelling.{LocalFits}
use Rattle.cse_image.proofs.checking.locals_fit.Given as goal

abbrev pub invariant-loop-i : goal.invariant-loop-i
invariant-loop-i l = AllAfter (λ before. LocalFits l.parameters (length before)) [] (take l.i l.locals)
