use Rattle.std.specs.Prelude.{IsTrue}
use Rattle.cse_image_parts.proofs.Places.{at_place_plain}
use Rattle.cse_image_parts.proofs.laws.number_after_others.Goals as goal

pub returns : goal.returns
returns c = λ test xs i h lt. at_place_plain (λ before x. IsTrue (test before x)) xs h i 0 lt
