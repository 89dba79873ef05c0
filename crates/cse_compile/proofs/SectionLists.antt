-- Lists that grow at their end.
use Rattle.std.proofs.Common.{◌≡◌, ℕ, zero, suc, ◌+◌, ◌-◌, ◌<◌, List, [], ◌∷◌, ◌++◌, length, get_or, drop, refl, sym, ap, ◌∙◌, append_assoc, arith, Some}
use Rattle.std.specs.Prelude.{replicate, slice_get}
use Rattle.std.proofs.lemmas.List.{drop_more}
use Rattle.cse_compile.specs.Outline.{numbers, number_local}

times_more : {A : Type 0} (x : A) (n : ℕ) → replicate (suc n) x ≡ x ∷ replicate n x
times_more x n = refl

pub times_less : {A : Type 0} (x : A) (n : ℕ) → 0 < n → replicate n x ≡ x ∷ replicate (n - 1) x
times_less x n h = let e : n ≡ suc (n - 1) = omega (arith, h) in ap (λ m. replicate m x) e ∙ times_more x (n - 1)

pub result_there : (n : ℕ) → slice_get (numbers n ++ number_local ∷ []) n ≡ Some number_local
result_there zero = refl
result_there (suc n) = result_there n

-- what a loop over a list has made so far, and what is left, where an element gives a part of its own
pub one_on : {X Y : Type 0} (F : List X → List Y) (xs : List X) (i : ℕ) (d : X) (old new part : List Y)
    → i < length xs → F (get_or xs i d ∷ drop (i + 1) xs) ≡ part ++ F (drop (i + 1) xs) → new ≡ old ++ part → new ++ F (drop (i + 1) xs) ≡ old ++ F (drop i xs)
one_on F xs i d old new part lt step is =
    ap (λ l. l ++ F (drop (i + 1) xs)) is
    ∙ append_assoc old part (F (drop (i + 1) xs))
    ∙ ap (λ l. old ++ l) (sym step)
    ∙ ap (λ l. old ++ F l) (sym (drop_more xs i d lt))

pub item_on : {X Y : Type 0} (F : List X → List Y) (xs : List X) (i : ℕ) (x : X) (old new part : List Y)
    → i < length xs → x ≡ get_or xs i x → F (x ∷ drop (i + 1) xs) ≡ part ++ F (drop (i + 1) xs) → new ≡ old ++ part → new ++ F (drop (i + 1) xs) ≡ old ++ F (drop i xs)
item_on F xs i x old new part lt there step is =
    one_on F xs i x old new part lt (ap (λ y. F (y ∷ drop (i + 1) xs)) (sym there) ∙ step) is
