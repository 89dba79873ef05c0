use Rattle.std.proofs.Common.{refl}
use Rattle.cse_batch_parts.proofs.EditLaws.{keeps_application}
use Rattle.cse_batch_parts.proofs.application.apply.Goals as goal

pub returns-clause-keeps : goal.returns-clause-keeps
returns-clause-keeps g c = λ p start sound k.
    keeps_application c.args.verified.now c.args.code p c.args.store.now c.run_application.new.store c.args.reports.now c.run_application.new.reports (record { listing = c.put_to.new.self; frequencies = c.run_application.new.reports.frequencies }) start sound _ _
    c.in_ok-run_application.ensures.applies c.put_to.ensures.puts c.put_to.ensures.held refl k
