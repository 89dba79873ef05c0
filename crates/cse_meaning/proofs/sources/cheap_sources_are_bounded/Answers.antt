use Rattle.cse_meaning.proofs.CaseCosts.{cheap_is_bounded, long_only_at_cost}
use Rattle.cse_meaning.proofs.sources.cheap_sources_are_bounded.Goals as goal

pub returns-clause-bounded : goal.returns-clause-bounded
returns-clause-bounded c = cheap_is_bounded

pub returns-clause-long : goal.returns-clause-long
returns-clause-long c = long_only_at_cost
