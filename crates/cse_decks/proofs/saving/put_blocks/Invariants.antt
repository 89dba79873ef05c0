use Rattle.std.proofs.Common.{take}
use Rattle.std.specs.Prelude.{map}
use Rattle.cse_image_parts.specs.Image.{array_lists}
use Rattle.cse_decks.specs.Deck.{blocks}
use Rattle.cse_value.specs.Gathering.{behind, Puts}
use Rattle.cse_decks.proofs.saving.put_blocks.Given as goal

-- the arrays so far
abbrev pub invariant-arrays : goal.invariant-arrays
invariant-arrays g l =
    Puts (behind g.W.Output.taken g.W.Output.has_failed l.fn.out l.fn.gatherer)
    (behind g.W.Output.taken g.W.Output.has_failed l.out l.gatherer)
    (blocks (map array_lists (take l.i l.arrays)) (take l.i l.cells))
