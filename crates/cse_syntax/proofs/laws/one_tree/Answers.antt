use Rattle.cse_syntax.proofs.Whole.{one_tree}
use Rattle.cse_syntax.proofs.laws.one_tree.Goals as goal

pub returns : goal.returns
returns c = one_tree
