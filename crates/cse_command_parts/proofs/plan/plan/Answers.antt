use Rattle.std.proofs.Common.{map}
use Rattle.std.proofs.lemmas.Result.{IfOk-weaker}
use Rattle.cse_command_parts.proofs.WordLaws.{asked}
use Rattle.cse_command_parts.proofs.plan.plan.Goals as goal

pub returns : goal.returns
returns c = IfOk-weaker c.command_of.result _ _ (λ command entered. asked (map (λ word. word.now) c.args.words.now) c.in_ok-matches.matches command c.in_ok-matches.ensures entered) c.command_of.ensures
