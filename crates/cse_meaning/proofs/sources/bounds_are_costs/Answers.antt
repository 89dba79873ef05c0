use Rattle.cse_meaning.proofs.Bounds.{bounds_are_costs}
use Rattle.cse_meaning.proofs.sources.bounds_are_costs.Goals as goal

pub returns : goal.returns
returns c = record { cost = bounds_are_costs }
