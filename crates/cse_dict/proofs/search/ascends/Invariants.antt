use Rattle.std.proofs.Common.{◌≡◌, length}
use Rattle.cse_dict.specs.Dictionary.{ascends}
use Rattle.cse_dict.proofs.search.ascends.Given as goal

abbrev pub invariant-spans : goal.invariant-spans
invariant-spans l = ascends l.rest ≡ ascends l.fn.spans

abbrev pub decreases-spans : goal.decreases-spans
decreases-spans l = length l.rest
