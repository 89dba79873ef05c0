-- A list that is judged from the left: each member with those behind it; all of them, or none where one is unsound.
use Rattle.std.specs.Prelude.{Bool, true, false, List, [], ◌∷◌, ◌++◌, Option, Some, None, option_map}

abbrev pub is_there : {A : Type 0} → Option A → Bool
is_there None = false
is_there (Some x) = true

-- both, if both are there
abbrev pub joined : {A B C : Type 0} → (A → B → C) → Option A → Option B → Option C
joined f (Some x) (Some y) = Some (f x y)
joined f (Some x) None = None
joined f None y = None

-- if the test holds
abbrev pub only_if : {A : Type 0} → Bool → Option A → Option A
only_if true x = x
only_if false x = None

abbrev pub walk : {A B : Type 0} → (A → List A → Option B) → List A → Option (List B)
walk f [] = Some []
walk f (x ∷ xs) = joined (λ y ys. y ∷ ys) (f x xs) (walk f xs)

-- those found so far and the rest, unless one of them is unsound
abbrev pub so_far : {B : Type 0} → Bool → List B → Option (List B) → Option (List B)
so_far sound found rest = only_if sound (option_map (λ ys. found ++ ys) rest)

abbrev pub found_more : {B : Type 0} → List B → Option B → List B
found_more found None = found
found_more found (Some x) = found ++ x ∷ []
