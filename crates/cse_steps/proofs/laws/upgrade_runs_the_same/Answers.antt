use Rattle.cse_steps.proofs.Upgrades.{upgrade_runs}
use Rattle.cse_steps.proofs.laws.upgrade_runs_the_same.Goals as goal

pub returns : goal.returns
returns c = upgrade_runs
