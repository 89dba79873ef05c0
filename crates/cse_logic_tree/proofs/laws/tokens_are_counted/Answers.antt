use Rattle.cse_logic_tree.proofs.TokenCounts.{tree_counts}
use Rattle.cse_logic_tree.proofs.laws.tokens_are_counted.Goals as goal

pub returns : goal.returns
returns c = tree_counts
