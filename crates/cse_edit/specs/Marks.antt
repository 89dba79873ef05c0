-- Marks, one for each item of the dictionary: whether a statement was found that writes it.
use Rattle.std.specs.Prelude.{ℕ, Bool, true, List, [], ◌∷◌, slice_set}

-- with those of these items
unfoldable pub marked : List Bool → List ℕ → List Bool
marked marks [] = marks
marked marks (item ∷ items) = marked (slice_set marks item true) items
