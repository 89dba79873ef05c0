-- The limits of an upgraded program: each loop may take as many turns as before.
use Rattle.std.proofs.Common.{◌≡◌, ℕ, zero, suc, ◌+◌, ◌-◌, ◌≤◌, ◌<◌, Bool, true, false, cond, ltb, List, [], ◌∷◌, ◌++◌, length, Some, refl, sym, ap, subst, ◌∙◌, arith}
use Rattle.std.specs.List.{range_with_len, slice_get}
use Rattle.std.proofs.lemmas.Bool.Decides.{nat_tests}
use Rattle.cse_lemmas.proofs.Lists.{slice_get-range_with_len}
use Rattle.cse_image_parts.specs.declared.instruction.Instr.{Instr}
use Rattle.cse_image_parts.specs.Turns.{limit_of}
use Rattle.cse_image_parts.specs.Versions.{is_counting}
use Rattle.cse_image_parts.specs.Upgrade.{greater, own_limit, greatest_limit, one_to, zero_below, upgrade_instr}

greater_least : (a b : ℕ) → (a ≤ greater a b) × (b ≤ greater a b)
greater_least a b = (grind (arith, nat_tests), grind (arith, nat_tests))

greater_assoc : (a b c : ℕ) → greater a (greater b c) ≡ greater (greater a b) c
greater_assoc a b c = grind (arith, nat_tests)

-- one instruction more
pub greatest_next : (xs : List Instr) (x : Instr) → greatest_limit (xs ++ x ∷ []) ≡ greater (greatest_limit xs) (own_limit x)
unfolding greatest_limit
greatest_next [] x = grind (arith, nat_tests)
greatest_next (y ∷ ys) x = ap (greater (own_limit y)) (greatest_next ys x) ∙ greater_assoc (own_limit y) (greatest_limit ys) (own_limit x)

range_next : (a n : ℕ) → range_with_len a (suc n) ≡ range_with_len a n ++ (a + n) ∷ []
range_next a zero = ap (λ (m : ℕ). m ∷ []) (omega arith)
range_next a (suc n) = ap (λ (xs : List ℕ). a ∷ xs) (range_next (a + 1) n ∙ ap (λ (m : ℕ). range_with_len (a + 1) n ++ m ∷ []) (omega arith))

-- one limit more
pub one_to_next : (n : ℕ) → one_to (suc n) ≡ one_to n ++ (n + 1) ∷ []
unfolding one_to
one_to_next n = range_next 1 n ∙ ap (λ (m : ℕ). range_with_len 1 n ++ m ∷ []) (omega arith)

-- as it stands each limit is at its own place
pub own_place : (n b : ℕ) → b < n → limit_of (zero_below n) b ≡ Some b
unfolding zero_below
own_place n b lt = slice_get-range_with_len 0 n b lt ∙ ap (λ (m : ℕ). Some m) (omega arith)

-- in the upgrade it is at the place before
pub place_before : (n b : ℕ) → 1 ≤ b → b ≤ n → limit_of (one_to n) (b - 1) ≡ Some b
unfolding one_to
place_before n b some le = slice_get-range_with_len 1 n (b - 1) (omega arith) ∙ ap (λ (m : ℕ). Some m) (omega arith)

-- no instruction of the code holds a greater limit
pub at_most_greatest : (code : List Instr) (i : ℕ) (x : Instr) → slice_get code i ≡ Some x → own_limit x ≤ greatest_limit code
unfolding greatest_limit
at_most_greatest [] i x e = absurd cc
at_most_greatest (y ∷ ys) zero x e = let same : y ≡ x = cc in subst (λ (z : Instr). own_limit z ≤ greater (own_limit y) (greatest_limit ys)) same (greater_least (own_limit y) (greatest_limit ys)).0
at_most_greatest (y ∷ ys) (suc i) x e = omega (arith, at_most_greatest ys i x e, (greater_least (own_limit y) (greatest_limit ys)).1)

upgraded_b : (x : Instr) (counting : Bool) → is_counting x.op ≡ counting → counting ≡ true → ((upgrade_instr x).b ≡ x.b - 1) × (own_limit x ≡ x.b)
upgraded_b x counting is e = (rw (is, e) refl, rw (is, e) refl)

-- a loop of the upgrade may take as many turns as the code as it stands says
pub turns_kept : (code : List Instr) (i : ℕ) (x : Instr) → slice_get code i ≡ Some x → is_counting x.op ≡ true → 1 ≤ x.b → x.b < 65536
    → limit_of (one_to (greatest_limit code)) (upgrade_instr x).b ≡ limit_of (zero_below 65536) x.b
turns_kept code i x there counting some small =
    let b = upgraded_b x (is_counting x.op) refl counting in
    let le : x.b ≤ greatest_limit code = omega (arith, b.1, at_most_greatest code i x there) in
    ap (limit_of (one_to (greatest_limit code))) b.0 ∙ place_before (greatest_limit code) x.b some le ∙ sym (own_place 65536 x.b small)
