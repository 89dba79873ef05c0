-- What the sections give, one behind the other, and loops that gather it.
use Rattle.std.proofs.Common.{◌≡◌, ℕ, ◌+◌, ◌<◌, ◌≤◌, List, [], ◌∷◌, ◌++◌, length, get_or, take, drop, map, Result, Ok, Err, ap, ap₂, sym, ◌∙◌, append_assoc, append-nil}
use Rattle.std.specs.Prelude.{IfOk, IsErr}
use Rattle.std.proofs.lemmas.List.{at_drop_all, map_push, take_all, take_more}
use Rattle.cse_lemmas.proofs.Lists.{drop_read}

-- a clause on success, at an error
pub no_value : {T E : Type 0} (P : T → Type 0) (r : Result T E) → IsErr r → IfOk r P
no_value P (Ok x) h = cc
no_value P (Err y) h = tt

module _ {S X Y : Type 0} (step : S → X → S) (own : S → X → List Y) (all_from : S → List X → List Y)
    (one : (s : S) (x : X) (xs : List X) → all_from s (x ∷ xs) ≡ own s x ++ all_from (step s x) xs) where
  -- what one section more gives joins the front
  pub one_more : (all front new : List Y) (s t : S) (xs : List X) (i : ℕ) (x : X) → i < length xs → x ≡ get_or xs i x
      → front ++ all_from s (drop i xs) ≡ all → new ≡ front ++ own s x → t ≡ step s x → new ++ all_from t (drop (i + 1) xs) ≡ all
  one_more all front new s t xs i x below is before put stepped =
      ap₂ (λ (l : List Y) (u : S). l ++ all_from u (drop (i + 1) xs)) put stepped
      ∙ append_assoc front (own s x) (all_from (step s x) (drop (i + 1) xs))
      ∙ ap (λ (l : List Y). front ++ l) (sym (one s x (drop (i + 1) xs)) ∙ ap (λ (l : List X). all_from s l) (sym (drop_read xs i x below is)))
      ∙ before

-- behind the last section nothing is left
pub none_more : {S X Y : Type 0} (all_from : S → List X → List Y) (all front : List Y) (s : S) (xs : List X) (i : ℕ) → length xs ≤ i → all_from s [] ≡ []
    → front ++ all_from s (drop i xs) ≡ all → front ≡ all
none_more {S} {X} {Y} all_from all front s xs i le none before =
    sym (ap (λ (l : List Y). front ++ l) (at_drop_all (all_from s) xs i le ∙ none) ∙ append-nil front) ∙ before

module _ {X Y : Type 0} (f : X → Y) where
  -- a part of one more of them
  pub one_part_more : (old new : List Y) (xs : List X) (i : ℕ) (x : X) (y : Y) → i < length xs → x ≡ get_or xs i x
      → old ≡ map f (take i xs) → new ≡ old ++ y ∷ [] → y ≡ f x → new ≡ map f (take (i + 1) xs)
  one_part_more old new xs i x y below is before put part =
      put ∙ ap₂ (λ (l : List Y) (z : Y). l ++ z ∷ []) before part ∙ sym (map_push f (take i xs) x) ∙ ap (map f) (sym (take_more xs i x below ∙ ap (λ (z : X). take i xs ++ z ∷ []) (sym is)))

  pub all_parts : (old : List Y) (xs : List X) (i : ℕ) → length xs ≤ i → old ≡ map f (take i xs) → old ≡ map f xs
  all_parts old xs i le before = before ∙ ap (map f) (take_all i xs le)
