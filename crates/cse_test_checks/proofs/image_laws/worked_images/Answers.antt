use Rattle.std.proofs.Common.{refl}
use Rattle.std.specs.Str.{chars, is_utf8}
use lib.Utf8.{encode}
use Rattle.cse_image_parts.specs.Reader.{then_at, done, some_bytes, number, signed, checked, decoded, many, counted, whole}
use Rattle.cse_image_parts.specs.Spelling.{section}
use Rattle.cse_image_parts.specs.Placeholders.{pieces_after}
use Rattle.cse_image_parts.specs.Opcodes.{shape, op_of}
use Rattle.cse_image_parts.specs.Texts.{is_text, is_short, is_name, is_new}
use Rattle.cse_image_parts.specs.Upgrade.{greatest_limit, one_to, zero_below}
use Rattle.cse_image.specs.Reading.{zero_at, flag_at, header_at, record_at, item_at, set_at, limit_at, limits_at, characters_at, text_at, global_at, dimension_at, name_at, array_at, message_at, local_at, routine_at, event_at, instr_at, lists_at, edition_at, whole_edition, reading}
use Rattle.cse_test_checks.proofs.image_laws.worked_images.Goals as goal

pub returns : goal.returns
unfolding chars is_utf8 encode then_at done some_bytes number signed checked decoded many counted whole section pieces_after shape op_of is_text is_short is_name is_new greatest_limit one_to zero_below zero_at flag_at header_at record_at item_at set_at limit_at limits_at characters_at text_at global_at dimension_at name_at array_at message_at local_at routine_at event_at instr_at lists_at edition_at whole_edition reading
returns c = record {
  rules_are = refl;
  rules_of_loops_are = refl;
  rules_of_version_one_are = refl;
  version_two_is_written = refl;
  hello_ends_early = refl;
  hello_one_ends_early = refl;
  loop_ends_early = refl;
  full_ends_early = refl;
  one_byte_is_left = refl;
  messages_are = refl;
  texts_are = refl;
}
