use Rattle.std.proofs.Common.{[], take, map}
use Rattle.cse_image_parts.specs.Reader.{AllAfter}
use Rattle.cse_image.specs.Spelling.{TextFits}
use Rattle.std.specs.String.{string_bytes}
use Rattle.cse_image.proofs.fitting.each_text_fits.Given as goal

abbrev pub invariant-loop-text : goal.invariant-loop-text
invariant-loop-text l = AllAfter (λ _. TextFits) [] (map string_bytes (take l.text-index l.texts))
