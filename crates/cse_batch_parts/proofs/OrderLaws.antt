-- The edit order names records that are there.
use Rattle.std.proofs.Common.{◌≡◌, ℕ, ◌+◌, ◌<◌, ◌≤◌, Bool, true, false, eqb, ltb, cond, List, [], ◌∷◌, refl, ap, ◌∙◌, ◌⊎◌, inl, inr, arith, rules}
use Rattle.std.specs.Prelude.{count_by}
use Rattle.std.specs.List.{AllByRecursion}
use Rattle.std.proofs.lemmas.Bool.{cases_lt, eq-eqb}
use Rattle.std.proofs.lemmas.List.Sums.{sum_by-cons}
use Rattle.cse_code_typing.specs.Order.{NamesEachOnce}

-- a number that is not among the elements
some_is_one : (r rest all : ℕ) → all ≡ (cond (eqb r r) 1 0) + rest → all ≡ 0 → ⊥
some_is_one r rest all e none =
    let one : all ≡ 1 + rest = e ∙ ap (λ (b : Bool). (cond b 1 0) + rest) (eq-eqb r r refl) in
    omega arith

below : (n : ℕ) (rs : List ℕ) → ((k : ℕ) → n ≤ k → count_by (λ o. eqb o k) rs ≡ 0) → AllByRecursion (λ r. r < n) rs
below n [] none = tt
below n (r ∷ rs) none = (
  here (cases_lt r n),
  below n rs (λ k high.
      let all = none k high in
      let split : count_by (λ o. eqb o k) (r ∷ rs) ≡ (cond (eqb r k) 1 0) + count_by (λ o. eqb o k) rs = sum_by-cons (λ o. cond (eqb o k) 1 0) r rs in
      omega (arith, all, split)),
)
  where
    here : (r < n) ⊎ (n ≤ r) → r < n
    here (inl low) = low
    here (inr high) = absurd (some_is_one r (count_by (λ o. eqb o r) rs) (count_by (λ o. eqb o r) (r ∷ rs)) (sum_by-cons (λ o. cond (eqb o r) 1 0) r rs) (none r high))

high_is_none : (n k : ℕ) → n ≤ k → (if_below : Bool) → ltb k n ≡ if_below → (let x : ℕ = cond if_below 1 0 in x) ≡ 0
high_is_none n k high true e = absurd (omega (arith, low))
  where
    low : k < n
    low = search rules
high_is_none n k high false e = refl

pub all_below : (n : ℕ) (order : List ℕ) → NamesEachOnce n order → AllByRecursion (λ r. r < n) order
all_below n order each = below n order (λ k high. each k ∙ high_is_none n k high (ltb k n) refl)
