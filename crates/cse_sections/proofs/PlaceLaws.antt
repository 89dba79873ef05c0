-- A search for a byte as a place.
use Rattle.std.proofs.Common.{◌≡◌, ◌<◌, ℕ, Bool, true, false, cond, List, length, sym, ap, ◌∙◌, arith, rules, tests, Option, None, Some}
use Rattle.std.specs.Prelude.{position, nat_lt}
use Rattle.std.specs.List.{position_or_len}
use Rattle.std.proofs.lemmas.List.Sums.{position_or_len_is}
use Rattle.std.proofs.lemmas.Bool.{false_from_ne_true}
use Rattle.memchr.specs.Find.{IsFirstByte}

module _ (p : ℕ → Bool) (xs : List ℕ) where
  below_length : (n : ℕ) → n < length xs → nat_lt n (length xs) ≡ true
  below_length n h = search (rules, tests)

  not_below : nat_lt (length xs) (length xs) ≡ false
  not_below = search (rules, tests)

  -- the first place that a search finds
  pub position-first : (r : Option ℕ) → IsFirstByte p xs r → r ≡ position p xs
  position-first None h =
      let place : position_or_len p xs ≡ length xs = position_or_len_is p xs (length xs) 0 (omega arith) (λ k lt. false_from_ne_true _ (h k (omega arith) lt)) (λ lt. absurd (omega (arith, lt))) in
      sym (ap (λ n. cond (nat_lt n (length xs)) (Some n) None) place ∙ ap (λ v. cond v (Some (length xs)) None) not_below)
  position-first (Some i) h =
      let place : position_or_len p xs ≡ i = position_or_len_is p xs i 0 (omega (arith, h.0.high)) (λ k lt. false_from_ne_true _ (h.0.before k (omega arith) lt)) (λ lt. h.1) in
      sym (ap (λ n. cond (nat_lt n (length xs)) (Some n) None) place ∙ ap (λ v. cond v (Some i) None) (below_length i h.0.high))
