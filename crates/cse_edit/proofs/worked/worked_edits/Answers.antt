use Rattle.std.proofs.Common.{refl}
use Rattle.std.specs.Fmt.{digits}
use Rattle.std.specs.Str.{chars, is_utf8}
use lib.Utf8.{encode}
use Rattle.cse_value.specs.Field.{field, trimmed, numeral, digits_number, put, put_whole}
use Rattle.cse_case.specs.Columns.{line_text, id_of}
use Rattle.cse_case.specs.NamedColumns.{ids_of, least_width, record_of, width_of}
use Rattle.cse_case.specs.Line.{lines_in}
use Rattle.cse_case.specs.Runs.{line_fault, given_of, fault_in}
use Rattle.cse_case.specs.Written.{written_line}
use Rattle.cse_case.specs.Case.{places_of, place_of, number_at, text_at, with_number}
use Rattle.cse_case.specs.Field.{field_of}
use Rattle.cse_case.specs.Seen.{occurrence_places, unseen_of, is_case}
use Rattle.cse_report.specs.Frequency.{frequencies_text, item_lines}
use Rattle.cse_report.specs.Listing.{case_heading, summary}
use Rattle.cse_report.specs.MessageText.{message_text}
use Rattle.cse_image_parts.specs.Placeholders.{pieces_after}
use Rattle.cse_decks.specs.Deck.{array_line, block}
use Rattle.cse_decks.specs.Loading.{after_size, after_word, are_sizes, array_read, cell_of, is_array_line, line_read, opening, word}
use Rattle.cse_meaning.specs.Expressions.{number_of, words_of, numbers_of, indexes_of, chained}
use Rattle.cse_meaning.specs.Statements.{does, all_do, arms_do, arguments_of}
use Rattle.cse_meaning.specs.Meaning.{functions_below, functions, meaning}
use Rattle.cse_edit.specs.Logic.{batch_meant}
use Rattle.cse_edit.proofs.worked.worked_edits.Goals as goal

pub returns : goal.returns
unfolding batch_meant meaning functions functions_below does all_do arms_do arguments_of number_of words_of numbers_of indexes_of chained given_of fault_in line_fault lines_in line_text id_of ids_of least_width record_of width_of written_line places_of place_of number_at text_at with_number field_of occurrence_places unseen_of is_case case_heading summary frequencies_text item_lines message_text pieces_after array_line block after_size after_word are_sizes array_read cell_of is_array_line line_read opening word field trimmed numeral digits_number put put_whole digits chars is_utf8 encode
returns c = record {
  no_logic_stays = refl;
  undefined_is_stars = refl;
  negative = refl;
  zero_filled = refl;
  no_code = refl;
  code = refl;
  sums_are_cut = refl;
  cells_are_read = refl;
  arms = refl;
  turns = refl;
  imputed = refl;
  imputation_is_counted = refl;
  decks_are_saved = refl;
  decks_are_loaded = refl;
  imputed_again = refl;
  adults_are_counted = refl;
}
