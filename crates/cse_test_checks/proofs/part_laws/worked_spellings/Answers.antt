use Rattle.std.proofs.Common.{refl}
use Rattle.cse_sections.specs.Number.{whole_of, unsigned_of, negated_of, fits_columns}
use Rattle.cse_test_checks.proofs.part_laws.worked_spellings.Goals as goal

pub returns : goal.returns
unfolding whole_of unsigned_of negated_of fits_columns
returns c = record {
  numbers_are = refl;
  columns_are = refl;
}
