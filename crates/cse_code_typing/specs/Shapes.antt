-- The shape that a program was made for.
use Rattle.cse_value.specs.Shape.{ShapeLists}
use Rattle.cse_image_parts.specs.Image.{Image}

abbrev pub shape_of : Image → ShapeLists
shape_of x = record { records = x.lists.records; items = x.lists.items; sets = x.lists.sets }
