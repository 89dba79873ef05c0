use Rattle.std.proofs.Common.{refl}
use Rattle.std.specs.Fmt.{digits}
use Rattle.std.specs.Str.{chars, is_utf8}
use lib.Utf8.{encode}
use Rattle.cse_value.specs.Field.{trimmed, digits_number, numeral, field, put_whole, put, kept}
use Rattle.cse_decks.specs.Store.{first_kept}
use Rattle.cse_decks.specs.Deck.{array_line, block, deck_text}
use Rattle.cse_decks.specs.Loading.{cell_of, word, after_word, after_size, are_sizes, is_array_line, opening, array_read, line_read, loaded}
use Rattle.cse_test_checks.proofs.file_laws.worked_decks.Goals as goal

pub returns : goal.returns
unfolding digits chars is_utf8 encode trimmed digits_number numeral field put_whole put kept first_kept array_line block deck_text cell_of word after_word after_size are_sizes is_array_line opening array_read line_read loaded
returns c = record {
  first_is = refl;
  texts_are = refl;
  cells_are = refl;
  kept_texts_are = refl;
  faults_are = refl;
  fronts_are = refl;
}
