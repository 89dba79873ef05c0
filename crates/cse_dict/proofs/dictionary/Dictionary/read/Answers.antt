use Rattle.std.proofs.Common.{◌∙◌, ap}
use Rattle.cse_dict.specs.Faults.{faults_of}
use Rattle.cse_dict.specs.Reading.{text_faults}
use Rattle.cse_dict.proofs.LeastLaws.{IsAnswer-noted, least-none}
use Rattle.cse_dict.proofs.LimitLaws.{sections_sound}
use Rattle.cse_dict.proofs.dictionary.Dictionary.read.Goals as goal

pub dictionary_of-requires : goal.dictionary_of-requires
dictionary_of-requires c =
    ap faults_of (c.deref.ensures.value ∙ c.in-Ok.ensures.sections) ∙ sections_sound c.args.text.now (least-none (text_faults c.args.text.now) c.in-Ok.ensures.sound)

pub returns-in-Err-clause-fault : goal.returns-in-Err-clause-fault
returns-in-Err-clause-fault c = IsAnswer-noted c.args.text.now c.in-Err.error c.in-Err.ensures.fault

pub returns-in-Ok-dictionary_of-clause-sound : goal.returns-in-Ok-dictionary_of-clause-sound
returns-in-Ok-dictionary_of-clause-sound c = least-none (text_faults c.args.text.now) c.in-Ok.ensures.sound
