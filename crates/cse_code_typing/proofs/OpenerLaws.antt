-- A search through a list, one element after the other.
use Rattle.std.proofs.Common.{◌≡◌, ℕ, zero, suc, ◌+◌, ◌-◌, ◌<◌, ◌≤◌, Bool, true, false, List, [], ◌∷◌, length, take, drop, reverse, get_or, Some, refl, sym, ap, ◌∙◌, arith, add-one}
use Rattle.std.specs.Prelude.{slice_get, ◌||◌}
use Rattle.std.specs.List.{list_any}
use Rattle.std.proofs.lemmas.Option.{slice_get-get_or}
use Rattle.std.proofs.lemmas.List.{get_or-reverse, length-reverse, length-take-le, get_or-take}
use Rattle.cse_lemmas.proofs.Lists.{drop_some}

pub any_here : (f : ℕ → Bool) (xs : List ℕ) (i x : ℕ) (found : Bool) → slice_get xs i ≡ Some x → found ≡ f x → found ≡ true → true ≡ list_any f (drop i xs)
any_here f xs i x found at is holds =
    sym (ap (list_any f) (drop_some xs i x at) ∙ ap (λ b. b || list_any f (drop (suc i) xs)) (sym is ∙ holds))

pub any_more : (f : ℕ → Bool) (xs : List ℕ) (i x : ℕ) (found : Bool) → slice_get xs i ≡ Some x → found ≡ f x → found ≡ false → list_any f (drop i xs) ≡ list_any f (drop (i + 1) xs)
any_more f xs i x found at is fails =
    ap (list_any f) (drop_some xs i x at) ∙ ap (λ b. b || list_any f (drop (suc i) xs)) (sym is ∙ fails) ∙ ap (λ n. list_any f (drop n xs)) (sym (add-one i))

any_none : (f : ℕ → Bool) (xs : List ℕ) (i : ℕ) → length xs ≤ i → false ≡ list_any f (drop i xs)
any_none f [] zero h = refl
any_none f [] (suc i) h = refl
any_none f (x ∷ xs) zero h = absurd (omega arith)
any_none f (x ∷ xs) (suc i) h = any_none f xs i (omega arith)

pub any_end : (f : ℕ → Bool) (xs : List ℕ) (i : ℕ) → length xs ≤ i → false ≡ list_any f (drop i xs)
any_end = any_none
