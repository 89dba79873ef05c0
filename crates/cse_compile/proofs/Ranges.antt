-- Lists over the numbers from 0 on grow at their end.
use Rattle.std.proofs.Common.{◌≡◌, ℕ, zero, suc, ◌+◌, List, [], ◌∷◌, ◌++◌, refl, ap, sym, ◌∙◌, append_assoc, arith}
use Rattle.std.specs.List.{flat_map, range_with_len}
use Rattle.std.proofs.lemmas.List.{append-nil}

more_from : {A : Type 0} (f : ℕ → List A) (a n : ℕ) → flat_map f (range_with_len a (suc n)) ≡ flat_map f (range_with_len a n) ++ f (a + n)
more_from f a zero = let e : a ≡ a + 0 = omega arith in append-nil (f a) ∙ ap f e
more_from f a (suc n) =
    let e : a + 1 + n ≡ a + suc n = omega arith in
    ap (λ l. f a ++ l) (more_from f (a + 1) n)
    ∙ sym (append_assoc (f a) (flat_map f (range_with_len (a + 1) n)) (f (a + 1 + n)))
    ∙ ap (λ m. (f a ++ flat_map f (range_with_len (a + 1) n)) ++ f m) e

pub one_more : {A : Type 0} (f : ℕ → List A) (n : ℕ) → flat_map f (range_with_len 0 (n + 1)) ≡ flat_map f (range_with_len 0 n) ++ f n
one_more f n =
    let e : n + 1 ≡ suc n = omega arith in
    let z : 0 + n ≡ n = omega arith in
    ap (λ m. flat_map f (range_with_len 0 m)) e ∙ more_from f 0 n ∙ ap (λ m. flat_map f (range_with_len 0 n) ++ f m) z
