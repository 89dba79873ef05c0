-- A set of names, seen as the list of their bytes.
use Rattle.std.proofs.Common.{◌≡◌, ℕ, Bool, true, false, List, [], ◌∷◌, ◌++◌, map, refl, sym, ap, ◌∙◌}
use Rattle.std.specs.Prelude.{◌||◌, if◌then◌else◌}
use Rattle.std.specs.List.{list_any}
use Rattle.std.proofs.lemmas.List.{map-append}
use Rattle.std.specs.Str.{bytes_eq}
use Rattle.cse_dict.specs.Names.{with_name}

module _ {A B : Type 0} (h : A → B) (test : B → Bool) where
  pub list_any-map : (xs : List A) → list_any test (map h xs) ≡ list_any (λ x. test (h x)) xs
  list_any-map [] = refl
  list_any-map (x ∷ xs) = ap (λ b. test (h x) || b) (list_any-map xs)

-- the keys after an insertion
pub insert-map : {K : Type 0} (h : K → List ℕ) (ks : List K) (k : K)
    → map h (if list_any (λ x. bytes_eq (h k) (h x)) ks then ks else ks ++ k ∷ []) ≡ with_name (map h ks) (h k)
insert-map h ks k = by (list_any (λ x. bytes_eq (h k) (h x)) ks) refl
  where
    by : (b : Bool) → list_any (λ x. bytes_eq (h k) (h x)) ks ≡ b
        → map h (if list_any (λ x. bytes_eq (h k) (h x)) ks then ks else ks ++ k ∷ []) ≡ with_name (map h ks) (h k)
    by true e = ap (λ c. map h (if c then ks else ks ++ k ∷ [])) e ∙ sym (ap (λ c. if c then map h ks else map h ks ++ h k ∷ []) (list_any-map h (bytes_eq (h k)) ks ∙ e))
    by false e = ap (λ c. map h (if c then ks else ks ++ k ∷ [])) e ∙ map-append h ks (k ∷ [])
        ∙ sym (ap (λ c. if c then map h ks else map h ks ++ h k ∷ []) (list_any-map h (bytes_eq (h k)) ks ∙ e))
