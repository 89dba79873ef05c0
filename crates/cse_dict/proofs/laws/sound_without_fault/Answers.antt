use Rattle.cse_dict.proofs.SoundLaws.{sound_without_fault}
use Rattle.cse_dict.proofs.laws.sound_without_fault.Goals as goal

pub returns : goal.returns
returns c = sound_without_fault
