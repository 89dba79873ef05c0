use Rattle.cse_case.proofs.SightLaws.{seen-or-unseen}
use Rattle.cse_case.proofs.laws.seen_or_unseen.Goals as goal

pub returns : goal.returns
returns c = seen-or-unseen
