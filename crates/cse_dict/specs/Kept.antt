-- What a dictionary keeps beside its records, items and sets: where their names stand, and their shapes. It is sound, and its value sets have few rows.
use Rattle.std.specs.Prelude.{◌≡◌, ℕ, List, []}
use Rattle.cse_value.specs.Shape.{ShapeLists}
use Rattle.cse_dict.specs.Dictionary.{DictionaryText, item_names, places_from, record_names, set_names, shape_of}
use Rattle.cse_dict.specs.Rows.{HasFewRows}
use Rattle.cse_dict.specs.Sound.{IsSound}

pub record IsKept (d : DictionaryText) (record_places item_places set_places : List (List ℕ × ℕ)) (shape : ShapeLists) : Type 0 where
  pub record_places_are : record_places ≡ places_from [] 0 (record_names d)
  pub item_places_are : item_places ≡ places_from [] 0 (item_names d)
  pub set_places_are : set_places ≡ places_from [] 0 (set_names d)
  pub shape_is : shape ≡ shape_of d
  pub sound : IsSound d
  pub rows : HasFewRows d
