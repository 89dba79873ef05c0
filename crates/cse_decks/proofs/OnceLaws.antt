-- Arrays that come at most once.
use Rattle.std.proofs.Common.{◌≡◌, ℕ, zero, suc, ◌<◌, Bool, true, false, eqb, List, [], ◌∷◌, set, replicate, refl, ap, sym, ◌∙◌, arith}
use Rattle.std.specs.Prelude.{map, nat_eq}
use Rattle.std.specs.List.{AllByRecursion, IsDistinct}
use Rattle.std.proofs.lemmas.Bool.Decides.{nat_tests}
use Rattle.std.proofs.lemmas.Bool.{eqb-true}
use Rattle.cse_decks.specs.DeckText.{HotDeck}
use Rattle.cse_decks.specs.Loading.{is_open}

-- each of the arrays is open when it comes
abbrev pub Once : List Bool → List HotDeck → Type 0
Once came [] = Unit {0}
Once came (d ∷ ds) = (is_open came d.array ≡ true) × Once (set came d.array true) ds

abbrev pub Open : List Bool → List HotDeck → Type 0
Open came ds = AllByRecursion (λ d. is_open came d.array ≡ true) ds

-- ---- an array that came

open_other : (came : List Bool) (i k : ℕ) → eqb i k ≡ false → is_open (set came i true) k ≡ is_open came k
open_other [] i k h = refl
open_other (c ∷ cs) zero zero h = cc
open_other (c ∷ cs) zero (suc k) h = refl
open_other (c ∷ cs) (suc i) zero h = refl
open_other (c ∷ cs) (suc i) (suc k) h = open_other cs i k (grind (arith, nat_tests))

not_open_own : (came : List Bool) (i : ℕ) → is_open (set came i true) i ≡ true → ⊥
not_open_own [] i h = cc
not_open_own (c ∷ cs) zero h = cc
not_open_own (c ∷ cs) (suc i) h = not_open_own cs i h

open_before : (came : List Bool) (i k : ℕ) → is_open (set came i true) k ≡ true → (eqb i k ≡ false) × (is_open came k ≡ true)
open_before came i k h = by_same (eqb i k) refl
  where
    by_same : (b : Bool) → eqb i k ≡ b → (eqb i k ≡ false) × (is_open came k ≡ true)
    by_same true e = let same : i ≡ k = eqb-true i k e in absurd (not_open_own came i (ap (λ (n : ℕ). is_open (set came i true) n) same ∙ h))
    by_same false e = (e, sym (open_other came i k e) ∙ h)

pub open_first : (n k : ℕ) → k < n → is_open (replicate n false) k ≡ true
open_first zero k h = absurd (omega arith)
open_first (suc n) zero h = refl
open_first (suc n) (suc k) h = open_first n k (omega arith)

-- ---- distinct arrays

abbrev array_of : HotDeck → ℕ
array_of d = d.array

still_open : (came : List Bool) (i : ℕ) (ds : List HotDeck) → AllByRecursion (λ k. nat_eq i k ≡ false) (map array_of ds) → Open came ds → Open (set came i true) ds
still_open came i [] h k = tt
still_open came i (d ∷ ds) h k = (open_other came i d.array h.0 ∙ k.0, still_open came i ds h.1 k.1)

pub once_distinct : (came : List Bool) (ds : List HotDeck) → IsDistinct nat_eq (map array_of ds) → Open came ds → Once came ds
unfolding IsDistinct
once_distinct came [] h k = tt
once_distinct came (d ∷ ds) h k = (k.0, once_distinct (set came d.array true) ds h.1 (still_open came d.array ds h.0 k.1))

open_others : (came : List Bool) (i : ℕ) (ds : List HotDeck) → Open (set came i true) ds → AllByRecursion (λ k. nat_eq i k ≡ false) (map array_of ds) × Open came ds
open_others came i [] h = (tt, tt)
open_others came i (d ∷ ds) h = let own = open_before came i d.array h.0 in let more = open_others came i ds h.1 in ((own.0, more.0), (own.1, more.1))

pub distinct_once : (came : List Bool) (ds : List HotDeck) → Once came ds → IsDistinct nat_eq (map array_of ds) × Open came ds
unfolding IsDistinct
distinct_once came [] h = (tt, tt)
distinct_once came (d ∷ ds) h =
    let more = distinct_once (set came d.array true) ds h.1 in
    let others = open_others came d.array ds more.1 in
    ((others.0, more.0), (h.0, others.1))
