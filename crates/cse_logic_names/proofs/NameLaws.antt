-- Names as the entries of a map.
use Rattle.std.specs.Prelude.{nat_eq, ◌||◌}
use Rattle.std.specs.List.{list_any}
use Rattle.std.proofs.Common.{◌≡◌, ℕ, Bool, true, false, is_some, cond, List, [], ◌∷◌, map, refl, ap, sym, Option, Some, None}
use Rattle.std.proofs.lemmas.Bool.{false≢true}
use Rattle.std.specs.Map.{lookup, keys_of}
use Rattle.cse_logic_names.specs.Walk.{is_there}

pub lookup_named : {K X : Type 0} (f : K → List ℕ) (t : List ℕ → Bool) (es : List (K × X)) → lookup t (map (λ e. (f e.0, e.1)) es) ≡ lookup (λ k. t (f k)) es
lookup_named f t [] = refl
lookup_named f t (e ∷ es) = ap (λ r. cond (t (f e.0)) (Some e.1) r) (lookup_named f t es)

pub keys_named : {K X : Type 0} (f : K → List ℕ) (es : List (K × X)) → map (λ e. f e.0) es ≡ map f (keys_of es)
keys_named f [] = refl
keys_named f (e ∷ es) = ap (λ ks. f e.0 ∷ ks) (keys_named f es)

pub has_key : {X : Type 0} (n : ℕ) (es : List (ℕ × X)) → list_any (λ x. nat_eq n x) (map (λ e. e.0) es) ≡ is_some (lookup (nat_eq n) es)
has_key n [] = refl
has_key n (e ∷ es) = by (has_key n es) (nat_eq n e.0) refl
  where
    by : list_any (λ x. nat_eq n x) (map (λ e. e.0) es) ≡ is_some (lookup (nat_eq n) es) → (v : Bool) → nat_eq n e.0 ≡ v
        → (nat_eq n e.0 || list_any (λ x. nat_eq n x) (map (λ e. e.0) es)) ≡ is_some (cond (nat_eq n e.0) (Some e.1) (lookup (nat_eq n) es))
    by rest true is = rw is refl
    by rest false is = rw is rest

pub has_named : {K X : Type 0} (f : K → List ℕ) (t : List ℕ → Bool) (es : List (K × X)) → list_any t (map (λ e. f e.0) es) ≡ is_some (lookup (λ k. t (f k)) es)
has_named f t [] = refl
has_named f t (e ∷ es) = by (has_named f t es) (t (f e.0)) refl
  where
    by : list_any t (map (λ e. f e.0) es) ≡ is_some (lookup (λ k. t (f k)) es) → (v : Bool) → t (f e.0) ≡ v
        → (t (f e.0) || list_any t (map (λ e. f e.0) es)) ≡ is_some (cond (t (f e.0)) (Some e.1) (lookup (λ k. t (f k)) es))
    by rest true is = rw is refl
    by rest false is = rw is rest

pub gone : {A : Type 0} (o : Option A) → is_there o ≡ false → o ≡ None
gone None h = refl
gone (Some x) h = absurd (false≢true (sym h))
