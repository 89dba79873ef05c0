use Rattle.std.proofs.Common.{refl}
use Rattle.std.specs.Str.{chars, is_utf8}
use lib.Utf8.{encode}
use Rattle.cse_image_parts.specs.Opcodes.{op_of, shape}
use Rattle.cse_image_parts.specs.Texts.{is_text, is_name}
use Rattle.cse_test_checks.proofs.part_laws.worked_parts.Goals as goal

pub returns : goal.returns
unfolding chars is_utf8 encode op_of shape is_text is_name
returns c = record {
  texts_are = refl;
  names_are = refl;
  lengths_are = refl;
  owners_are = refl;
  occurrences_are = refl;
  cells_are = refl;
  starting_cells_are = refl;
  instructions_are = refl;
  events_are = refl;
  event_codes_are = refl;
  codes_are = refl;
  wrong_fields_are = refl;
}
