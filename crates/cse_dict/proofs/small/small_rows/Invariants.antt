use Rattle.std.proofs.Common.{◌≡◌, length}
use Rattle.cse_dict.specs.Small.{TellsRows}
use Rattle.cse_dict.proofs.small.small_rows.Given as goal

abbrev pub invariant-numbers : goal.invariant-numbers
invariant-numbers l = record {
  counted : length l.rows.items ≡ l.number;
  told : TellsRows l.rows.items l.spans;
}
