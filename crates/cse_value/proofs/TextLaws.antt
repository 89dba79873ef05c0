-- The order of two texts, character by character.
use Rattle.std.proofs.Common.{◌≡◌, ℕ, zero, suc, ◌+◌, ◌-◌, ◌<◌, ◌≤◌, max, List, [], ◌∷◌, ◌++◌, length, get_or, drop, refl, ap, sym, ◌∙◌, arith, add-one, drop-cons}
use Rattle.std.proofs.lemmas.List.{length-replicate, drop_all}
use Rattle.std.specs.declared.cmp.Ordering.{Ordering}
use Rattle.std.specs.declared.cmp.Ordering.TheVariants.{Equal}
use Rattle.std.specs.Ordering.{nat_cmp, ordering_then}
use Rattle.std.specs.Cmp.Lexicographic.{slice_cmp}
use Rattle.cse_lemmas.proofs.Lists.{length-padded}
use Rattle.cse_value.specs.Texts.{blanks, padded, text_order}

blank_at : (k i : ℕ) → get_or (blanks k) i 32 ≡ 32
blank_at zero i = refl
blank_at (suc k) zero = refl
blank_at (suc k) (suc i) = blank_at k i

-- padding changes no character
padded_at : (text : List ℕ) (k i : ℕ) → get_or (text ++ blanks k) i 32 ≡ get_or text i 32
padded_at [] k i = blank_at k i
padded_at (c ∷ text) k zero = refl
padded_at (c ∷ text) k (suc i) = padded_at text k i

pub length-blanks : (k : ℕ) → length (blanks k) ≡ k
length-blanks k = length-replicate {A = ℕ} k 32

-- the order of what both texts have from an index on
unfoldable pub order_from : ℕ → List ℕ → List ℕ → Ordering
order_from i x y = slice_cmp nat_cmp (drop i (padded (max (length x) (length y)) x)) (drop i (padded (max (length x) (length y)) y))

pub order_from-zero : (x y : List ℕ) → order_from 0 x y ≡ text_order x y
unfolding order_from text_order
order_from-zero x y = refl

from_drops : (i : ℕ) (a b : List ℕ) → i < length a → i < length b
    → slice_cmp nat_cmp (drop i a) (drop i b) ≡ ordering_then (nat_cmp (get_or a i 32) (get_or b i 32)) (slice_cmp nat_cmp (drop (i + 1) a) (drop (i + 1) b))
from_drops i a b p q = rw (add-one, drop-cons a i 32, drop-cons b i 32) refl

pub order_from-step : (i : ℕ) (x y : List ℕ) → i < max (length x) (length y)
    → order_from i x y ≡ ordering_then (nat_cmp (get_or x i 32) (get_or y i 32)) (order_from (i + 1) x y)
unfolding order_from
order_from-step i x y h =
    let n : ℕ = max (length x) (length y) in
    let p : i < length (padded n x) = omega (arith, length-padded n x 32 (omega arith)) in
    let q : i < length (padded n y) = omega (arith, length-padded n y 32 (omega arith)) in
    from_drops i (padded n x) (padded n y) p q
    ∙ ap (λ v. ordering_then v (slice_cmp nat_cmp (drop (i + 1) (padded n x)) (drop (i + 1) (padded n y))))
    (ap (λ v. nat_cmp v (get_or (padded n y) i 32)) (padded_at x (n - length x) i) ∙ ap (λ v. nat_cmp (get_or x i 32) v) (padded_at y (n - length y) i))

pub order_from-end : (i : ℕ) (x y : List ℕ) → max (length x) (length y) ≤ i → order_from i x y ≡ Equal
unfolding order_from
order_from-end i x y h =
    let n : ℕ = max (length x) (length y) in
    let p : length (padded n x) ≤ i = omega (arith, length-padded n x 32 (omega arith)) in
    let q : length (padded n y) ≤ i = omega (arith, length-padded n y 32 (omega arith)) in
    rw (drop_all i (padded n x) p, drop_all i (padded n y) q) refl

-- Where all before is the same, the characters at an index decide, or what follows them.
pub decided : (i : ℕ) (x y : List ℕ) (a b : ℕ) (r : Ordering) → i < max (length x) (length y) → order_from i x y ≡ text_order x y
    → a ≡ get_or x i 32 → b ≡ get_or y i 32 → r ≡ nat_cmp a b → ordering_then r (order_from (i + 1) x y) ≡ text_order x y
decided i x y a b r h before at_x at_y e =
    let rest : Ordering = order_from (i + 1) x y in
    let there : r ≡ nat_cmp (get_or x i 32) (get_or y i 32) = e ∙ (ap (λ v. nat_cmp v b) at_x ∙ ap (λ v. nat_cmp (get_or x i 32) v) at_y) in
    ap (λ v. ordering_then v rest) there ∙ (sym (order_from-step i x y h) ∙ before)
