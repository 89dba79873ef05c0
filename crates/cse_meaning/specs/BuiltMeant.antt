-- What is built does what the logic means.
use Rattle.std.specs.Prelude.{ℕ, List}
use Rattle.cse_image_parts.specs.Image.{Image}
use Rattle.cse_image.specs.Spelling.{StandFor}
use Rattle.cse_dict.specs.Dictionary.{DictionaryText}
use Rattle.cse_meaning.specs.Means.{Means}
use Rattle.cse_meaning.specs.Build.{AreSound}

-- The three texts are sound together. The bytes stand for a program, and each program that they stand for, in whatever version of the
-- format, does what the logic means.
pub record MeansLogic (d : DictionaryText) (logic messages order bytes : List ℕ) : Type 0 where
  pub texts : AreSound d logic messages order
  pub program : Image
  pub stands : StandFor program bytes
  pub means : (x : Image) → StandFor x bytes → Means (record { dictionary = d; image = x }) texts.tree
