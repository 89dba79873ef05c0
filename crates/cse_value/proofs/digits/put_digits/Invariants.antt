use Rattle.std.proofs.Common.{◌≡◌, ◌≤◌, ◌++◌, drop, length}
use Rattle.std.specs.Fmt.{decimal}
use Rattle.cse_value.proofs.digits.put_digits.Given as goal

abbrev pub invariant-digits : goal.invariant-digits
invariant-digits l = record {
  fits : l.at ≤ length l.columns;
  len : length l.columns ≡ length l.initial.columns;
  number : decimal l.number ≡ decimal l.rest ++ drop l.at l.columns;
}

abbrev pub decreases-digits : goal.decreases-digits
decreases-digits l = l.at
