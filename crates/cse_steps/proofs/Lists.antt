-- Lists by their places, and in reverse.
use Rattle.std.proofs.Common.{◌≡◌, ℕ, zero, suc, ◌*◌, List, [], ◌∷◌, ◌++◌, map, reverse, Some, refl, sym, ap, ◌∙◌, arith}
use Rattle.std.specs.Prelude.{slice_get, slice_set}
use Rattle.std.proofs.lemmas.List.{reverse-append, map-append}
use Rattle.std.proofs.lemmas.Option.{same_Some}
use Rattle.cse_image_parts.specs.Fields.{product}

-- another element that looks the same changes nothing of how the list looks
pub map_set : {X Y : Type 0} (f : X → Y) (xs : List X) (k : ℕ) (new old : X) → slice_get xs k ≡ Some old → f new ≡ f old → map f (slice_set xs k new) ≡ map f xs
map_set f [] k new old h e = refl
map_set f (x ∷ xs) zero new old h e = ap (λ y. y ∷ map f xs) (e ∙ ap f (sym (same_Some _ _ h)))
map_set f (x ∷ xs) (suc k) new old h e = ap (λ l. f x ∷ l) (map_set f xs k new old h e)

pub map_reverse : {X Y : Type 0} (f : X → Y) (xs : List X) → map f (reverse xs) ≡ reverse (map f xs)
map_reverse f [] = refl
map_reverse f (x ∷ xs) =
    ap (map f) (reverse-append (x ∷ []) xs)
    ∙ (map-append f (reverse xs) (x ∷ [])
    ∙ (ap (λ l. l ++ f x ∷ []) (map_reverse f xs)
    ∙ sym (reverse-append (f x ∷ []) (map f xs))))

product_append : (a b : List ℕ) → product (a ++ b) ≡ product a * product b
product_append [] b = omega arith
product_append (d ∷ a) b = let h = product_append a b in grind arith

pub product_reverse : (a : List ℕ) → product (reverse a) ≡ product a
product_reverse [] = refl
product_reverse (d ∷ a) =
    let e = ap product (reverse-append (d ∷ []) a) ∙ product_append (reverse a) (d ∷ []) in
    let h = product_reverse a in
    grind arith
