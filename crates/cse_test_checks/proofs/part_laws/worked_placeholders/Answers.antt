use Rattle.std.proofs.Common.{refl}
use Rattle.cse_image_parts.specs.Placeholders.{pieces_after}
use Rattle.cse_test_checks.proofs.part_laws.worked_placeholders.Goals as goal

pub returns : goal.returns
unfolding pieces_after
returns c = record {
  marks_are = refl;
  others_are_plain = refl;
  counts_are = refl;
  kinds_are = refl;
  few_are = refl;
}
