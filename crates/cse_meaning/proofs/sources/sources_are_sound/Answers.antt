use Rattle.cse_meaning.proofs.EditOrder.{orders_name_all}
use Rattle.cse_meaning.proofs.SoundLaws.{sources_are_sound, grammar_suffices}
use Rattle.cse_meaning.proofs.sources.sources_are_sound.Goals as goal

pub returns-clause-sound : goal.returns-clause-sound
returns-clause-sound c = sources_are_sound

pub returns-clause-truncated : goal.returns-clause-truncated
returns-clause-truncated c = grammar_suffices

pub returns-clause-order : goal.returns-clause-order
returns-clause-order c = orders_name_all
