use Rattle.std.proofs.Common.{◌≡◌, List, length, ap, refl, arith}
use Rattle.cse_image_parts.specs.declared.placeholders.ArgumentKind.{ArgumentKind}
use Rattle.std.specs.Fmt.{digits}
use Rattle.std.specs.Str.{chars, is_utf8}
use lib.Utf8.{encode}
use Rattle.cse_image_parts.specs.Placeholders.{pieces_after}
use Rattle.cse_report.specs.MessageText.{words_text, message_text}
use Rattle.cse_report.specs.Listing.{case_heading, summary}
use Rattle.cse_report.specs.Frequency.{item_lines, frequencies_text}
use Rattle.cse_test_checks.proofs.file_laws.worked_reports.Goals as goal

pub returns : goal.returns
unfolding digits chars is_utf8 encode pieces_after words_text message_text case_heading summary item_lines frequencies_text
returns c = record {
  numbers_are = refl;
  words_are = refl;
  sixteen_are = refl;
  sixteen_are_taken = refl;
  fifteen_are_not = λ e. let same : 15 ≡ 16 = ap (λ (kinds : List ArgumentKind). length kinds) e in absurd (omega arith);
  all_but_the_first_are_not = λ e. let same : 15 ≡ 16 = ap (λ (kinds : List ArgumentKind). length kinds) e in absurd (omega arith);
  none_is_not = λ e. let same : 0 ≡ 16 = ap (λ (kinds : List ArgumentKind). length kinds) e in absurd (omega arith);
  nothing_is_listed = refl;
  unseen_lines_are = refl;
  two_numbers_are = refl;
  application_is = refl;
  application_is_held = refl;
  ages_are = refl;
  ages_behind_cases_are = refl;
  ages_behind_headings_are = refl;
  ages_are_held = refl;
  no_age_is_held = refl;
  ids_stay = refl;
  nothing_is_counted = refl;
  one_is_counted = refl;
  values_are_counted = refl;
}
