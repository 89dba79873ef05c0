use Rattle.cse_command_images.proofs.TriedLaws.{preproc_fits}
use Rattle.cse_command_images.proofs.try_image.run_with.Goals as goal

pub run_plain-requires-clause-fits : goal.run_plain-requires-clause-fits
run_plain-requires-clause-fits g c = rw (c.in_ok-machine.ensures) (preproc_fits c.args.verified.now c.args.store.now c.requires.store)
