-- What the type of a dictionary's shape holds beside the rules: numbers of so many bits.
use Rattle.std.specs.List.{AllByRecursion}
use Rattle.cse_value.specs.Shape.{ShapeLists}
use Rattle.cse_image.specs.Spelling.{RecordFits, ItemFits, SetFits}

-- the numbers of each record, item and set have the bits that their fields have in an image
pub record ShapeFits (x : ShapeLists) : Type 0 where
  pub records : AllByRecursion RecordFits x.records
  pub items : AllByRecursion ItemFits x.items
  pub sets : AllByRecursion SetFits x.sets
