use Rattle.std.proofs.Common.{subst}
use Rattle.cse_logic_expressions.proofs.Right.{For}
use Rattle.cse_types.proofs.StatementsRight.{AreTypedStatements, block_right}
use Rattle.cse_types.proofs.StatementsComplete.{block_complete}
use Rattle.cse_types.proofs.judged_laws.statements_are_judged.Goals as goal

pub returns : goal.returns
returns c = record {
  sound = λ s n x y e. subst (For (AreTypedStatements s n x)) e (block_right s n x);
  complete = block_complete;
}
