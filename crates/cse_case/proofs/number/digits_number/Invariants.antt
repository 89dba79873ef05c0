use Rattle.std.proofs.Common.{◌≡◌, ◌<◌, ◌^◌, true, take}
use Rattle.std.specs.List.{list_all}
use Rattle.std.specs.Char.{is_ascii_digit}
use Rattle.cse_value.specs.Field.{digits_value}
use Rattle.cse_case.proofs.number.digits_number.Given as goal

abbrev pub invariant-digits : goal.invariant-digits
invariant-digits l = record {
  number : l.number ≡ digits_value (take l.digit-index l.digits);
  low : l.number < 10 ^ l.digit-index;
  digits : list_all is_ascii_digit (take l.digit-index l.digits) ≡ true;
}
