use Rattle.cse_value.proofs.GatherLaws.{Puts-then}
use Rattle.cse_value.proofs.gatherer.Gatherer.put_line.Goals as goal

pub returns : goal.returns
returns g c = Puts-then _ _ _ _ _ c.put.ensures c.put-2.ensures
