-- The shape of a dictionary as three lists: records, items and value sets in order of appearance.
use Rattle.std.specs.Prelude.{List}
use Rattle.cse_value.specs.declared.shape.RecordShape.{RecordShape}
use Rattle.cse_value.specs.declared.shape.ItemShape.{ItemShape}
use Rattle.cse_value.specs.declared.shape.SetShape.{SetShape}
use Rattle.cse_value.specs.declared.shape.Shape.{Shape}

pub record ShapeLists : Type 0 where
  pub records : List RecordShape
  pub items : List ItemShape
  pub sets : List SetShape

-- the lists that a shape holds
abbrev pub shape_lists : Shape → ShapeLists
shape_lists s = record { records = s.records.items; items = s.items.items; sets = s.sets.items }
