use Rattle.std.proofs.Common.{◌≡◌, length}
use Rattle.cse_logic_names.specs.MessageFile.{without_gaps}
use Rattle.cse_logic_names.proofs.gaps.without_gaps.Given as goal

abbrev pub invariant-gaps : goal.invariant-gaps
invariant-gaps l = without_gaps l.rest ≡ without_gaps l.fn.text

abbrev pub decreases-gaps : goal.decreases-gaps
decreases-gaps l = length l.rest
