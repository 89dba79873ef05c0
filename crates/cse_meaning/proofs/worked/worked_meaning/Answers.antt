use Rattle.std.proofs.Common.{refl}
use Rattle.std.specs.Fmt.{digits}
use Rattle.cse_case.specs.Case.{places_of, place_of, number_at, text_at, with_number}
use Rattle.cse_case.specs.Field.{field_of}
use Rattle.cse_value.specs.Field.{field, trimmed, numeral, digits_number, put, put_whole}
use Rattle.cse_case.specs.Seen.{occurrence_places}
use Rattle.cse_meaning.specs.Expressions.{number_of, words_of, numbers_of, indexes_of, chained}
use Rattle.cse_meaning.specs.Statements.{does, all_do, arms_do, arguments_of}
use Rattle.cse_meaning.specs.Meaning.{functions_below, functions, meaning}
use Rattle.cse_meaning.proofs.worked.worked_meaning.Goals as goal

pub returns : goal.returns
unfolding meaning functions functions_below does all_do arms_do arguments_of number_of words_of numbers_of indexes_of chained places_of place_of number_at text_at with_number occurrence_places field_of field trimmed numeral digits_number put put_whole digits
returns c = record {
  sums_are_cut = refl;
  cells_are_read = refl;
  cell_is_set = refl;
  nothing_is_called = refl;
  child = refl;
  adult = refl;
  old = refl;
  odd = refl;
  undefined_is_stars = refl;
  negative = refl;
  zero_filled = refl;
  no_code = refl;
  code = refl;
  no_turn = refl;
  three_turns = refl;
  deck_is_put = refl;
  deck_is_got = refl;
  imputation_is_told = refl;
  two_of_three = refl;
  last_is_kept = refl;
}
