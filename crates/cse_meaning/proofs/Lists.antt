-- What holds of each entry of a list.
use Rattle.std.proofs.Common.{◌≡◌, ℕ, suc, List, [], ◌∷◌, Some, refl}
use Rattle.std.specs.Prelude.{slice_get}
use Rattle.std.specs.List.{AllByRecursion, flat_map}
use Rattle.cse_lemmas.proofs.Lists.{AllByRecursion-append}

pub each_flat : {A B : Type 0} (P : B → Type 0) (f : A → List B) (xs : List A) → AllByRecursion (λ x. AllByRecursion P (f x)) xs → AllByRecursion P (flat_map f xs)
each_flat P f [] h = tt
each_flat P f (x ∷ xs) h = AllByRecursion-append P (f x) (flat_map f xs) h.0 (each_flat P f xs h.1)

pub by_place : {A : Type 0} (P : A → Type 0) (xs : List A) → ((k : ℕ) (x : A) → slice_get xs k ≡ Some x → P x) → AllByRecursion P xs
by_place P [] f = tt
by_place P (x ∷ xs) f = (f 0 x refl, by_place P xs (λ k y e. f (suc k) y e))
