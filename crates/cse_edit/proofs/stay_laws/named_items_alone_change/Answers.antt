use Rattle.cse_edit.proofs.StayRuns.{named_items_alone_change as law}
use Rattle.cse_edit.proofs.stay_laws.named_items_alone_change.Goals as goal

pub returns : goal.returns
returns c = law
