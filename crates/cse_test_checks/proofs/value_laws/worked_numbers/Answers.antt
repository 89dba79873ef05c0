use Rattle.std.proofs.Common.{refl}
use Rattle.std.specs.Fmt.{digits}
use Rattle.cse_test_checks.proofs.value_laws.worked_numbers.Goals as goal

pub returns : goal.returns
unfolding digits
returns c = record {
  sums_are = refl;
  differences_are = refl;
  products_are = refl;
  quotients_are = refl;
  remainders_are = refl;
  negatives_are = refl;
  specials_make_none = refl;
  conditions_are = refl;
  relations_are = refl;
  texts_are = refl;
}
