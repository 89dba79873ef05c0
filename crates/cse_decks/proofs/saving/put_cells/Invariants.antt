use Rattle.std.proofs.Common.{take}
use Rattle.std.specs.List.{flat_map}
use Rattle.cse_decks.specs.Deck.{cell_line}
use Rattle.cse_value.specs.Gathering.{behind, Puts}
use Rattle.cse_decks.proofs.saving.put_cells.Given as goal

-- the lines so far
abbrev pub invariant-cells : goal.invariant-cells
invariant-cells g l =
    Puts (behind g.W.Output.taken g.W.Output.has_failed l.fn.out l.fn.gatherer)
    (behind g.W.Output.taken g.W.Output.has_failed l.out l.gatherer)
    (flat_map cell_line (take l.cell-index l.cells))
