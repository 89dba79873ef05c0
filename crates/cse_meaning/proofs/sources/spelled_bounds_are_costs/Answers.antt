use Rattle.cse_meaning.proofs.SoundLaws.{spelled_bounds}
use Rattle.cse_meaning.proofs.sources.spelled_bounds_are_costs.Goals as goal

pub returns : goal.returns
returns c = record { cost = spelled_bounds }
