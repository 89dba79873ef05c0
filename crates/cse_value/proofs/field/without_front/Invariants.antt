use Rattle.std.proofs.Common.{◌≡◌, length}
use Rattle.cse_value.specs.Field.{without_blanks}
use Rattle.cse_value.proofs.field.without_front.Given as goal

abbrev pub invariant-blanks : goal.invariant-blanks
invariant-blanks l = without_blanks l.rest ≡ without_blanks l.fn.columns

abbrev pub decreases-blanks : goal.decreases-blanks
decreases-blanks l = length l.rest
