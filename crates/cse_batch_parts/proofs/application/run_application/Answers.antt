use Rattle.cse_batch_parts.proofs.EditLaws.{application_fits, application_stays, applies_of}
use Rattle.cse_batch_parts.proofs.application.run_application.Goals as goal

pub returns-clause-applies : goal.returns-clause-applies
returns-clause-applies g c =
    applies_of c.args.verified.now c.args.code c.args.store.now c.run_plain.new.store _ c.args.reports.now c.begin_run.new.self c.run_plain.new.reports c.begin_run.ensures.listing c.begin_run.ensures.frequencies
    (rw c.requires.machine at c.in_ok-run_plain.ensures.ended)

pub returns-clause-store_fits : goal.returns-clause-store_fits
returns-clause-store_fits g c =
    application_stays c.args.verified.now c.args.code c.args.store.now c.run_plain.new.store _ c.begin_run.new.self c.run_plain.new.reports c.event_ends.ensures
    (application_fits c.args.verified.now c.args.code c.args.store.now c.requires.of_run c.requires.store) (rw c.requires.machine at c.in_ok-run_plain.ensures.ended)
