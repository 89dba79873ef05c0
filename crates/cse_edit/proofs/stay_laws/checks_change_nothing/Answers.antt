use Rattle.cse_edit.proofs.StayRuns.{checks_change_nothing as law}
use Rattle.cse_edit.proofs.stay_laws.checks_change_nothing.Goals as goal

pub returns : goal.returns
returns c = law c.named_items_alone_change.ensures
