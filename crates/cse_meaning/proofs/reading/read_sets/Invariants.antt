use Rattle.std.proofs.Common.{take}
use Rattle.std.specs.List.{AllByRecursion}
use Rattle.cse_image.specs.Spelling.{SetFits}
use Rattle.cse_meaning.proofs.reading.read_sets.Given as goal

abbrev pub invariant-loop-set : goal.invariant-loop-set
invariant-loop-set l = AllByRecursion SetFits (take l.set-index l.sets)
