use Rattle.std.proofs.Common.{refl}
use Rattle.std.specs.Fmt.{digits}
use Rattle.std.specs.Str.{chars, is_utf8}
use lib.Utf8.{encode}
use Rattle.cse_sections.specs.Text.{trimmed, is_same, characters}
use Rattle.cse_sections.specs.Number.{unsigned_of, negated_of, whole_of, number_between, fits_columns}
use Rattle.cse_sections.specs.Sections.{heading_of, with_line, after_mark, lines_of, sections_of}
use Rattle.cse_sections.specs.Sections as sections_sections
use Rattle.cse_dict.specs.Keys.{kind_of, entry_of, data_type_named, data_type_of, is_name}
use Rattle.cse_dict.specs.Types.{unquoted, type_len_of, type_of}
use Rattle.cse_dict.specs.Pairs.{pieces_of, is_quoted, quoted_pair, range_of, with_counted, pairs_after, is_value, with_piece, with_value, rows_of}
use Rattle.cse_dict.specs.Pairs as dict_pairs
use Rattle.cse_dict.specs.Fields.{columns_of, field_of, share_column, is_opaque, item_kind, type_columns_of}
use Rattle.cse_dict.specs.Context.{owner_after, context_after, id_columns_at, covered_by}
use Rattle.cse_dict.specs.Faults.{number_faults, optional_faults, name_faults, names_after, type_faults, twice_faults, types_after, record_number_faults, record_head_faults, record_faults, is_too_far, has_bad_code, code_faults, columns_faults, form_faults, field_faults, item_limit_faults, item_place_faults, item_head_faults, item_faults, filled_after, value_faults_at, set_head_faults, set_faults, faults_at, seen_after, start_faults, first_faults, is_level, read_part, unread_part, rest_faults, faults_behind, faults_of}
use Rattle.cse_dict.specs.Dictionary.{text_name, name_at, record_shape_at, record_in, field_or_none, item_shape_at, item_in, set_at, set_in, level_name_of, dictionary_of}
use Rattle.cse_case.specs.Line.{lines_in}
use Rattle.cse_case.specs.Columns.{line_text, id_of}
use Rattle.cse_case.specs.NamedColumns.{ids_of, least_width, record_of, width_of}
use Rattle.cse_case.specs.Runs.{line_fault, given_of, fault_in}
use Rattle.cse_test_checks.proofs.file_laws.worked_runs.Goals as goal

pub returns : goal.returns
unfolding digits chars is_utf8 encode trimmed is_same characters unsigned_of negated_of whole_of number_between fits_columns heading_of with_line after_mark lines_of sections_of sections_sections.pair_of kind_of entry_of data_type_named data_type_of is_name unquoted type_len_of type_of pieces_of is_quoted quoted_pair range_of with_counted pairs_after is_value with_piece with_value rows_of dict_pairs.pair_of columns_of field_of share_column is_opaque item_kind type_columns_of owner_after context_after id_columns_at covered_by number_faults optional_faults name_faults names_after type_faults twice_faults types_after record_number_faults record_head_faults record_faults is_too_far has_bad_code code_faults columns_faults form_faults field_faults item_limit_faults item_place_faults item_head_faults item_faults filled_after value_faults_at set_head_faults set_faults faults_at seen_after start_faults first_faults is_level read_part unread_part rest_faults faults_behind faults_of text_name name_at record_shape_at record_in field_or_none item_shape_at item_in set_at set_in level_name_of dictionary_of lines_in line_text id_of ids_of least_width record_of width_of line_fault given_of fault_in
returns c = record {
  runs_are = refl;
  small_are = refl;
  none_is_faulty = refl;
  second_is_faulty = refl;
  none_is_given = refl;
}
