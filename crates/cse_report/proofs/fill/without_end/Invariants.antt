use Rattle.std.proofs.Common.{◌≡◌, ◌≤◌, length}
use Rattle.std.specs.Prelude.{reverse}
use Rattle.cse_value.specs.Field.{without_blanks}
use Rattle.cse_report.proofs.fill.without_end.Given as goal

abbrev pub invariant-blanks : goal.invariant-blanks
invariant-blanks l = record {
  short : length l.rest ≤ length l.fn.text;
  same : without_blanks (reverse l.rest) ≡ without_blanks (reverse l.fn.text);
}

abbrev pub decreases-blanks : goal.decreases-blanks
decreases-blanks l = length l.rest
