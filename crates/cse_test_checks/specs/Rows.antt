-- Rows: what is given, and what a definition makes of it.
use Rattle.std.specs.Prelude.{◌≡◌, List, map}

-- the definition makes of the first part of each row its second part
abbrev pub Gives : {A B : Type 0} → (A → B) → List (A × B) → Type 0
Gives f rows = map (λ row. f row.0) rows ≡ map (λ row. row.1) rows
