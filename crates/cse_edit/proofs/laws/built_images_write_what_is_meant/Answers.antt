use Rattle.cse_edit.proofs.Edits.{written_is_meant}
use Rattle.cse_edit.proofs.laws.built_images_write_what_is_meant.Goals as goal

pub returns : goal.returns
returns g c = written_is_meant c.args.verified.now c.batches_mean.ensures
