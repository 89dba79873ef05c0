-- An edit order that names each of n records once has n entries at most.
use Rattle.std.proofs.Common.{◌≡◌, ◌≤◌, ◌<◌, ℕ, zero, suc, ◌+◌, Bool, true, false, ◌||◌, List, [], ◌∷◌, length, Some, refl, sym, ◌∙◌, arith, ⊎_elim}
use Rattle.std.specs.Prelude.{nat_eq, nat_lt, slice_get}
use Rattle.std.specs.List.{AllByRecursion, IsDistinct, list_any, range_with_len}
use Rattle.std.proofs.lemmas.Bool.{eqb-true, eq-eqb, ne_eqb, cond-true, cond-false, cases_lt, lt-ltb, le-ltb, false≢true}
use Rattle.std.proofs.lemmas.Cmp.{nat_eq_equiv}
use Rattle.std.proofs.lemmas.List.FromFn.{length-range_with_len}
use Rattle.std.proofs.lemmas.Map.Made.{length-le_from_is_member}
use Rattle.std.proofs.lemmas.Option.{same_Some, none-some}
use Rattle.cse_code_typing.specs.Order.{NamesEachOnce}
use Rattle.cse_meaning.proofs.EditOrder.{times, times_first, one_same}
use Rattle.cse_meaning.proofs.Lists.{by_place}

-- a number that doesn't stand in the list
absent : (x : ℕ) (xs : List ℕ) → times x xs ≡ 0 → AllByRecursion (λ y. nat_eq x y ≡ false) xs
absent x [] e = tt
absent x (y ∷ ys) e =
    let a = times_first x y ys in
    (ne_eqb x y (λ s. let b = one_same y x (sym s) in omega (arith, a, b, e)), absent x ys (omega (arith, a, e)))

distinct : (xs : List ℕ) → ((k : ℕ) → times k xs ≤ 1) → IsDistinct nat_eq xs
unfolding IsDistinct
distinct [] h = tt
distinct (x ∷ xs) h =
    (absent x xs (let a = times_first x x xs in let b = one_same x x refl in let c = h x in omega (arith, a, b, c)), distinct xs (λ k. let a = times_first k x xs in let c = h k in omega (arith, a, c)))

member_counts : (q : ℕ) (xs : List ℕ) → list_any (nat_eq q) xs ≡ true → 1 ≤ times q xs
member_counts q [] e = absurd (false≢true e)
member_counts q (x ∷ xs) e = by (nat_eq q x) refl e (member_counts q xs)
  where
    by : (b : Bool) → nat_eq q x ≡ b → (b || list_any (nat_eq q) xs) ≡ true → (list_any (nat_eq q) xs ≡ true → 1 ≤ times q xs) → 1 ≤ times q (x ∷ xs)
    by true f g ih = let a = times_first q x xs in let b = one_same x q (sym (eqb-true q x f)) in omega (arith, a, b)
    by false f g ih = let a = times_first q x xs in let b = ih g in omega (arith, a, b)

entry_counts : (xs : List ℕ) (i k : ℕ) → slice_get xs i ≡ Some k → 1 ≤ times k xs
entry_counts [] i k e = absurd (none-some k e)
entry_counts (x ∷ xs) zero k e = let a = times_first k x xs in let b = one_same x k (same_Some x k e) in omega (arith, a, b)
entry_counts (x ∷ xs) (suc i) k e = let a = times_first k x xs in let b = entry_counts xs i k e in omega (arith, a, b)

in_range : (q from n : ℕ) → from ≤ q → q < from + n → list_any (nat_eq q) (range_with_len from n) ≡ true
in_range q from zero le lt = absurd (omega (arith, le, lt))
in_range q from (suc n) le lt = by (nat_eq q from) refl (in_range q (from + 1) n)
  where
    by : (b : Bool) → nat_eq q from ≡ b → (from + 1 ≤ q → q < from + 1 + n → list_any (nat_eq q) (range_with_len (from + 1) n) ≡ true) → (b || list_any (nat_eq q) (range_with_len (from + 1) n)) ≡ true
    by true f ih = refl
    by false f ih =
        ⊎_elim
        (λ (less : from < q). ih (omega (arith, less)) (omega (arith, lt)))
        (λ (more : q ≤ from). absurd (false≢true (sym f ∙ eq-eqb q from (omega (arith, le, more)))))
        (cases_lt from q)

module _ (n : ℕ) (order : List ℕ) (each : NamesEachOnce n order) where
  at_most_one : (k : ℕ) → times k order ≤ 1
  at_most_one k =
      ⊎_elim
      (λ (lt : k < n). let a = each k in let b = cond-true {A = ℕ} (nat_lt k n) 1 0 (lt-ltb k n lt) in omega (arith, a, b))
      (λ (ge : n ≤ k). let a = each k in let b = cond-false {A = ℕ} (nat_lt k n) 1 0 (le-ltb k n ge) in omega (arith, a, b))
      (cases_lt k n)

  below : (k : ℕ) → 1 ≤ times k order → k < n
  below k some =
      ⊎_elim
      (λ (lt : k < n). lt)
      (λ (ge : n ≤ k). let a = each k in let b = cond-false {A = ℕ} (nat_lt k n) 1 0 (le-ltb k n ge) in absurd (omega (arith, a, b, some)))
      (cases_lt k n)

  pub order_few : length order ≤ n
  order_few =
      let a = length-le_from_is_member nat_eq_equiv order (range_with_len 0 n) (distinct order at_most_one) (λ q h. in_range q 0 n (omega arith) (let lt = below q (member_counts q order h) in omega (arith, lt))) in
      let b = length-range_with_len 0 n in
      omega (arith, a, b)

  pub order_below : AllByRecursion (λ k. k < n) order
  order_below = by_place (λ k. k < n) order (λ i k e. below k (entry_counts order i k e))
