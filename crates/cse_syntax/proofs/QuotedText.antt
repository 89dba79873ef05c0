-- Where a text in quotes may be cut.
use Rattle.std.proofs.Common.{◌≡◌, ℕ, zero, suc, ◌-◌, ◌<◌, Bool, true, false, ◌||◌, ◌&&◌, ◌==◌, List, [], ◌∷◌, length, take, drop, get_or, refl, ap, ◌∙◌, arith, IsUtf8}
use Rattle.std.specs.Prelude.{nat_le}
use Rattle.std.specs.List.{count_by, list_all}
use Rattle.std.specs.Str.{IsCharBoundary}
use Rattle.std.proofs.lemmas.Str.{IsCharBoundary-after_ascii, IsCharBoundary-before_ascii}
use Rattle.std.proofs.lemmas.Bool.{eqb-true, and_parts}
use Rattle.cse_syntax_tree.specs.Leaf.{begins, is_inside, is_start, is_quote, text_of, is_text}

quote_small : (q : ℕ) → is_quote q ≡ true → q < 128
quote_small q h =
    let by : (x : Bool) → (q == 39) ≡ x → (x || (q == 34)) ≡ true → q < 128 = λ x. elim x as (λ x. (q == 39) ≡ x → (x || (q == 34)) ≡ true → q < 128) [
      | true ↦ λ e i. omega (arith, eqb-true q 39 e)
      | false ↦ λ e i. omega (arith, eqb-true q 34 i)
    ] in by (q == 39) refl h

begins_at : (q i : ℕ) (bs : List ℕ) → begins q (drop i bs) ≡ true → (i < length bs) × (get_or bs i 0 ≡ q)
begins_at q zero [] h = absurd cc
begins_at q zero (b ∷ bs) h = (omega arith, eqb-true b q h)
begins_at q (suc i) [] h = absurd cc
begins_at q (suc i) (b ∷ bs) h = let r = begins_at q i bs h in (omega (arith, r.0), r.1)

-- the quotes are at both ends
pub quotes : (bs : List ℕ) → is_text bs ≡ true → (1 < length bs) × (get_or bs 0 0 < 128) × (get_or bs (length bs - 1) 0 < 128)
unfolding is_text
quotes [] h = absurd cc
quotes (q ∷ bs) h =
    let a = and_parts (is_quote q) (begins q (drop (length bs - 1) bs) && (list_all (is_inside q) (text_of (q ∷ bs)) && nat_le (count_by is_start (text_of (q ∷ bs))) 255)) h in
    let b = and_parts (begins q (drop (length bs - 1) bs)) (list_all (is_inside q) (text_of (q ∷ bs)) && nat_le (count_by is_start (text_of (q ∷ bs))) 255) a.1 in
    let last = begins_at q (length bs - 1) bs b.0 in
    let some : 0 < length bs = omega (arith, last.0) in
    let small = quote_small q a.0 in
    let place : suc (length bs) - 1 ≡ suc (length bs - 1) = omega (arith, some) in
    let at_end : get_or (q ∷ bs) (suc (length bs) - 1) 0 ≡ q = ap (λ (n : ℕ). get_or (q ∷ bs) n 0) place ∙ last.1 in
    (omega (arith, some), small, omega (arith, at_end, small))

pub first_cut : (bs : List ℕ) → IsUtf8 bs → is_text bs ≡ true → IsCharBoundary bs 1
first_cut bs text h = let q = quotes bs h in IsCharBoundary-after_ascii bs 0 text (omega (arith, q.0)) q.1

pub last_cut : (bs : List ℕ) → is_text bs ≡ true → IsCharBoundary bs (length bs - 1)
last_cut bs h = let q = quotes bs h in IsCharBoundary-before_ascii bs (length bs - 1) (omega (arith, q.0)) q.2

pub inside_is : (bs : List ℕ) → is_text bs ≡ true → take (length bs - 1 - 1) (drop 1 bs) ≡ text_of bs
unfolding is_text
inside_is [] h = absurd cc
inside_is (q ∷ bs) h = let e : suc (length bs) - 1 - 1 ≡ length bs - 1 = omega arith in ap (λ (n : ℕ). take n bs) e
