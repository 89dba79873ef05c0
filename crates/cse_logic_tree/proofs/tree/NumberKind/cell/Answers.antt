use Rattle.cse_logic_tree.proofs.Rows.{cell_is}
use Rattle.cse_logic_tree.proofs.tree.NumberKind.cell.Goals as goal

pub returns : goal.returns
returns c = cell_is c.args.name c.args.array c.args.subscripts
