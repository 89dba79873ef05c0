use Rattle.cse_logic_tree.proofs.Rows.{do_is}
use Rattle.cse_logic_tree.proofs.tree.StatementKind.counted.Goals as goal

pub returns : goal.returns
returns c = do_is c.args.head c.args.body
