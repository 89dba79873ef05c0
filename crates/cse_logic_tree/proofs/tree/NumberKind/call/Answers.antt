use Rattle.cse_logic_tree.proofs.Rows.{call_is}
use Rattle.cse_logic_tree.proofs.tree.NumberKind.call.Goals as goal

pub returns : goal.returns
returns c = call_is c.args.name c.args.function c.args.arguments
