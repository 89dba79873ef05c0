use Rattle.cse_syntax.proofs.LongestToken.{longest}
use Rattle.cse_syntax.proofs.laws.longest_tokens.Goals as goal

pub returns : goal.returns
returns c = longest
