use Rattle.cse_dict.proofs.FewRows.{HasFewRows-split}
use Rattle.cse_dict.proofs.LimitLaws.{faults_of-none}
use Rattle.cse_dict.proofs.SoundLaws.{IsSound-split}
use Rattle.cse_dict.proofs.dictionary.dictionary_of.Goals as goal

pub unreachable-requires : goal.unreachable-requires
unreachable-requires c = faults_of-none c.args.sections.now c.requires c.in_default.len_below

pub dictionary_behind-requires-clause-sound : goal.dictionary_behind-requires-clause-sound
dictionary_behind-requires-clause-sound c = IsSound-split c.args.sections.now c.first-item.result c.in-len1-up.len_at_least c.first-item.is c.requires

pub dictionary_behind-requires-clause-rows : goal.dictionary_behind-requires-clause-rows
dictionary_behind-requires-clause-rows c = HasFewRows-split c.args.sections.now c.first-item.result c.in-len1-up.len_at_least c.first-item.is c.requires
