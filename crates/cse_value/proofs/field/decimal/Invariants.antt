use Rattle.std.proofs.Common.{◌≡◌, min, true, take}
use Rattle.std.specs.List.{list_all}
use Rattle.std.specs.Char.{is_ascii_digit}
use Rattle.cse_value.specs.Field.{digits_value}
use Rattle.cse_value.specs.declared.field.TheConstants.{TOP}
use Rattle.cse_value.proofs.field.decimal.Given as goal

abbrev pub invariant-digits : goal.invariant-digits
invariant-digits l = record {
  number : l.number ≡ min (digits_value (take l.digit-index l.digits)) TOP;
  digits : list_all is_ascii_digit (take l.digit-index l.digits) ≡ true;
}
