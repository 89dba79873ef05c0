use Rattle.std.proofs.Common.{refl}
use Rattle.std.specs.Fmt.{digits}
use Rattle.std.specs.Str.{chars, is_utf8}
use lib.Utf8.{encode}
use Rattle.cse_case.specs.Columns.{line_text, id_of}
use Rattle.cse_case.specs.NamedColumns.{ids_of, least_width, record_of, width_of}
use Rattle.cse_case.specs.Line.{lines_in}
use Rattle.cse_case.specs.Runs.{line_fault, given_of, fault_in}
use Rattle.cse_case.specs.Written.{written_line}
use Rattle.cse_case.specs.Case.{places_of}
use Rattle.cse_case.specs.Seen.{occurrence_places, unseen_of, is_case}
use Rattle.cse_report.specs.Frequency.{frequencies_text, item_lines}
use Rattle.cse_report.specs.Listing.{case_heading, summary}
use Rattle.cse_decks.specs.Deck.{deck_text}
use Rattle.cse_steps.specs.Run.{first}
use Rattle.cse_batch_parts.specs.Events.{final, edited}
use Rattle.cse_batch_parts.specs.Batch.{after_application, after_run, batch, begun, stopped, whole}
use Rattle.cse_batch_parts.proofs.worked.worked_rows.Goals as goal

pub returns : goal.returns
unfolding batch begun after_application after_run edited stopped whole final first given_of fault_in line_fault lines_in line_text id_of ids_of least_width record_of width_of written_line places_of occurrence_places unseen_of is_case case_heading summary frequencies_text item_lines deck_text digits chars is_utf8 encode
returns c = record {
  lines_stay = refl;
  listing = refl;
  nothing_imputed = refl;
  no_decks = refl;
  broken_off = refl;
  no_summary = refl;
}
