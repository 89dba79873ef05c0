use Rattle.cse_decks.proofs.CellLaws.{reads_cells, reads_nothing_else}
use Rattle.cse_decks.proofs.laws.cell_lines.Goals as goal

pub returns-clause-cells : goal.returns-clause-cells
returns-clause-cells c = reads_cells

pub returns-clause-only : goal.returns-clause-only
returns-clause-only c = reads_nothing_else
