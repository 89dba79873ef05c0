use Rattle.cse_meaning.proofs.Once.{once}
use Rattle.cse_meaning.proofs.laws.meaning_is_the_outcome.Goals as goal

pub returns : goal.returns
returns c = once
