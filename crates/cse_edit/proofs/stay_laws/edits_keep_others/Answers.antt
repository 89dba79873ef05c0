use Rattle.cse_edit.proofs.StayRuns.{edits_keep_others as law}
use Rattle.cse_edit.proofs.stay_laws.edits_keep_others.Goals as goal

pub returns : goal.returns
returns c = law c.named_items_alone_change.ensures c.sound_without_fault.ensures
