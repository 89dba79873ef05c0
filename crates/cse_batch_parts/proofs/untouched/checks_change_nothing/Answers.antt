use Rattle.cse_batch_parts.proofs.UntouchedRuns.{checks_change_nothing as law}
use Rattle.cse_batch_parts.proofs.untouched.checks_change_nothing.Goals as goal

pub returns : goal.returns
returns g c = law c.args.verified.now c.untouched_columns_stay.ensures
