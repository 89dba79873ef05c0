use Rattle.cse_logic_tree.proofs.Rows.{if_is}
use Rattle.cse_logic_tree.proofs.tree.StatementKind.choice.Goals as goal

pub returns : goal.returns
returns c = if_is c.args.first c.args.others c.args.otherwise
