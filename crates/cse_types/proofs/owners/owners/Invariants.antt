use Rattle.std.proofs.Common.{◌≡◌, drop}
use Rattle.cse_types.specs.Fresh.{all_after, no_names}
use Rattle.cse_types.proofs.OwnerLaws.{with_owner}
use Rattle.cse_types.proofs.owners.owners.Given as goal

abbrev pub invariant-all : goal.invariant-all
invariant-all l = all_after with_owner l.fresh (drop l.x-index l.all) ≡ all_after with_owner no_names l.all
