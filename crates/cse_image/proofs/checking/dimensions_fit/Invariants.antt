use Rattle.std.proofs.Common.{take}
use Rattle.std.specs.List.{AllByRecursion}
use Rattle.cse_image.specs.Spelling.{DimensionFits}
use Rattle.cse_image.proofs.checking.dimensions_fit.Given as goal

abbrev pub invariant-loop-dimension : goal.invariant-loop-dimension
invariant-loop-dimension l = AllByRecursion DimensionFits (take l.dimension-index l.dimensions)
