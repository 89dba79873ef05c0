use Rattle.std.proofs.Common.{refl}
use Rattle.std.specs.Fmt.{digits}
use Rattle.cse_value.specs.Field.{field, trimmed, digits_number, numeral, put, put_whole}
use Rattle.cse_test_checks.proofs.value_laws.worked_fields.Goals as goal

pub returns : goal.returns
unfolding digits field trimmed digits_number numeral put put_whole
returns c = record {
  are_read = refl;
  without_code = refl;
  are_put = refl;
}
