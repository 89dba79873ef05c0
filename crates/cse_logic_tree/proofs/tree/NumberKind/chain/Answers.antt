use Rattle.cse_logic_tree.proofs.Rows.{chain_is}
use Rattle.cse_logic_tree.proofs.tree.NumberKind.chain.Goals as goal

pub returns : goal.returns
returns c = chain_is c.args.first c.args.others
