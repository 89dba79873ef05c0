use Rattle.std.proofs.Common.{◌≡◌, ◌≤◌, [], take, map}
use Rattle.cse_image_parts.specs.Reader.{AllAfter}
use Rattle.cse_image_parts.specs.Image.{array_lists}
use Rattle.cse_image_parts.specs.Fields.{cells_in}
use Rattle.cse_image.specs.Spelling.{ArrayFits}
use Rattle.cse_image.proofs.fitting.each_array_fits.Given as goal

abbrev pub invariant-loop-i : goal.invariant-loop-i
invariant-loop-i l = record { each : AllAfter ArrayFits [] (map array_lists (take l.i l.arrays)); sum : l.cells ≡ cells_in (map array_lists (take l.i l.arrays)); small : l.cells ≤ 1000000 }
