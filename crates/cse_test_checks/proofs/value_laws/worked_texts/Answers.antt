use Rattle.std.proofs.Common.{refl}
use Rattle.cse_value.specs.Texts.{text_order}
use Rattle.cse_test_checks.proofs.value_laws.worked_texts.Goals as goal

pub returns : goal.returns
unfolding text_order
returns c = record {
  relations_are = refl;
  are_put = refl;
}
