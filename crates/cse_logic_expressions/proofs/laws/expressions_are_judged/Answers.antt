use Rattle.std.proofs.Common.{subst}
use Rattle.cse_logic_expressions.proofs.Right.{Right, judge_right}
use Rattle.cse_logic_expressions.proofs.Complete.{complete, complete_words}
use Rattle.cse_logic_expressions.proofs.laws.expressions_are_judged.Goals as goal

pub returns : goal.returns
returns c = record {
  sound = λ s top x y e. subst (Right s top x) e (judge_right s top x);
  complete = complete;
  sound_texts = λ s top x y e. subst (Right s top x) e (judge_right s top x);
  complete_texts = complete_words;
}
