use Rattle.std.proofs.Common.{subst}
use Rattle.cse_dict.specs.Dictionary.{DictionaryText}
use Rattle.cse_dict.specs.Sound.{IsSound}
use Rattle.cse_edit.proofs.Whole.{batches_mean as law}
use Rattle.cse_edit.proofs.laws.batches_mean.Goals as goal

pub returns : goal.returns
returns g c =
    law c.args.verified.now c.programs_mean.ensures c.event_ends.ensures c.none_begins_another.ensures c.program.ensures.may_run
    (subst (λ (d : DictionaryText). IsSound d) c.dictionary.ensures c.hand_on_sound.ensures)
