use Rattle.std.proofs.Common.{◌≡◌, drop}
use Rattle.cse_types.specs.Fresh.{all_after, no_names}
use Rattle.cse_types.specs.Names.{is_new}
use Rattle.cse_types.proofs.FreshLaws.{with_parameter}
use Rattle.cse_types.proofs.parameters.parameters.Given as goal

abbrev pub invariant-all : goal.invariant-all
invariant-all l = all_after (with_parameter (is_new l.scope.dictionary l.scope.declared)) l.fresh (drop l.x-index l.all.items) ≡ all_after (with_parameter (is_new l.scope.dictionary l.scope.declared)) no_names l.all.items
