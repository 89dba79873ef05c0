use Rattle.std.proofs.Common.{subst}
use Rattle.cse_dict.specs.Dictionary.{DictionaryText}
use Rattle.cse_dict.specs.Sound.{IsSound}
use Rattle.cse_types.specs.Answer.{checked}
use Rattle.cse_meaning.proofs.Meant.{checked_means}
use Rattle.cse_meaning.proofs.compiling.does_as_meant.Goals as goal

pub returns : goal.returns
returns c =
    let sound = subst (λ (d : DictionaryText). IsSound d) c.dictionary.ensures c.shape.ensures.sound in
    checked_means (checked c.args.typed.now) c.args.program.now sound c.args.typed.now.is_checked c.programs_mean.ensures c.means_alone.ensures c.tables.ensures.fits c.requires.typed c.requires.bounded c.requires.tables
