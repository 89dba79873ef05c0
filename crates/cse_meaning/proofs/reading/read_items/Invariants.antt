use Rattle.std.proofs.Common.{take}
use Rattle.std.specs.List.{AllByRecursion}
use Rattle.cse_image.specs.Spelling.{ItemFits}
use Rattle.cse_meaning.proofs.reading.read_items.Given as goal

abbrev pub invariant-loop-item : goal.invariant-loop-item
invariant-loop-item l = AllByRecursion ItemFits (take l.item-index l.items)
