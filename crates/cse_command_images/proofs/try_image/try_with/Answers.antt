use Rattle.cse_command_images.proofs.TriedLaws.{runs_so}
use Rattle.cse_command_images.proofs.try_image.try_with.Goals as goal

pub returns-in-Ok-print-clause-runs : goal.returns-in-Ok-print-clause-runs
returns-in-Ok-print-clause-runs g c = (
  runs_so c.args.image.now c.args.dictionary.now c.in-Ok.verified c.in-Ok-run_preproc.field-0.steps c.in-Ok-run_preproc.field-0.reports.listing.texts c.requires.empty c.in-Ok.ensures.dictionary c.in-Ok.ensures.accepted c.in-Ok-run_preproc.ensures,
  c.in-Ok-print.ensures.bytes,
)

pub returns-clause-printed : goal.returns-clause-printed
returns-clause-printed g c = (
  c.in-Ok-run_preproc.field-0.steps,
  (
    runs_so c.args.image.now c.args.dictionary.now c.in-Ok.verified c.in-Ok-run_preproc.field-0.steps c.in-Ok-run_preproc.field-0.reports.listing.texts c.requires.empty c.in-Ok.ensures.dictionary c.in-Ok.ensures.accepted c.in-Ok-run_preproc.ensures,
    c.in-Err.ensures.bytes,
  ),
)
