-- Subscripts: one, or none.
use Rattle.std.proofs.Common.{◌≡◌, List, [], ◌∷◌, length, map, Some, None, refl, arith}
use Rattle.cse_logic_tree.specs.Typed.{Number, numbers}
use Rattle.cse_logic_expressions.specs.Judge.{sole}

pub sole_else : {A : Type 0} (f : A → Number) (xs : List A) → (length xs ≡ 1 → ⊥) → sole (Some (numbers (map f xs))) ≡ None
sole_else f [] h = refl
sole_else f (x ∷ []) h = absurd (h (omega arith))
sole_else f (x ∷ y ∷ ys) h = refl
