use Rattle.std.proofs.Common.{◌≡◌, ◌≤◌, length}
use Rattle.cse_value.specs.Field.{without_blanks}
use Rattle.cse_case.proofs.number.without_front.Given as goal

abbrev pub invariant-blanks : goal.invariant-blanks
invariant-blanks l = record {
  short : length l.rest ≤ length l.fn.columns;
  same : without_blanks l.rest ≡ without_blanks l.fn.columns;
}

abbrev pub decreases-blanks : goal.decreases-blanks
decreases-blanks l = length l.rest
