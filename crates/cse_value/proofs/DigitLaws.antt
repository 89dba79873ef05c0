-- Laws of a number that is written over columns.
use Rattle.std.proofs.Common.{◌≡◌, ℕ, zero, suc, ◌+◌, ◌-◌, ◌/◌, ◌%◌, ◌^◌, ◌<◌, ◌≤◌, Bool, true, false, cond, List, [], ◌∷◌, ◌++◌, length, set, drop, replicate, ℤ, pos, negsuc, refl, subst, sym, ap, ◌∙◌, arith, append_assoc, le-leb, length-append, length-drop, length-set}
use lib.IntN.{nat_abs}
use lib.Signed.{le_z}
use Rattle.std.proofs.lemmas.List.{drop-set}
use Rattle.std.proofs.lemmas.Fmt.{decimal_digit, decimal_step, decimal_nonempty}
use Rattle.std.specs.Fmt.{decimal}
use Rattle.cse_value.specs.Field.{put_whole}

-- a digit is written before those behind it
pub digit_before : (number rest at : ℕ) (columns : List ℕ) → 0 < at → at ≤ length columns → 10 ≤ rest → rest < 2 ^ 64 → decimal number ≡ decimal rest ++ drop at columns
    → decimal number ≡ decimal (rest / 10) ++ drop (at - 1) (set columns (at - 1) (48 + rest % 10))
digit_before number rest zero columns some here more small is = absurd (omega (arith, some))
digit_before number rest (suc k) columns some here more small is =
    let d = 48 + rest % 10 in
    let next : suc k ≡ k + 1 = omega arith in
    let before : k ≡ suc k - 1 = omega arith in
    is ∙ ap (λ n. decimal rest ++ drop n columns) next
    ∙ ap (λ l. l ++ drop (k + 1) columns) (decimal_step rest more small)
    ∙ append_assoc (decimal (rest / 10)) (d ∷ []) (drop (k + 1) columns)
    ∙ ap (λ l. decimal (rest / 10) ++ l) (sym (drop-set columns k d (omega (arith, here))))
    ∙ ap (λ n. decimal (rest / 10) ++ drop n (set columns n d)) before

-- the first digit
pub digit_first : (number rest at : ℕ) (columns : List ℕ) → 0 < at → at ≤ length columns → rest < 10 → decimal number ≡ decimal rest ++ drop at columns
    → decimal number ≡ drop (at - 1) (set columns (at - 1) (48 + rest % 10))
digit_first number rest zero columns some here small is = absurd (omega (arith, some))
digit_first number rest (suc k) columns some here small is =
    let same : rest % 10 ≡ rest = omega arith in
    let next : suc k ≡ k + 1 = omega arith in
    let before : k ≡ suc k - 1 = omega arith in
    is ∙ ap (λ n. decimal rest ++ drop n columns) next
    ∙ ap (λ l. l ++ drop (k + 1) columns) (decimal_digit rest small)
    ∙ sym (drop-set columns k (48 + rest) (omega (arith, here))) ∙ ap (λ n. drop k (set columns k (48 + n))) (sym same)
    ∙ ap (λ n. drop n (set columns n (48 + rest % 10))) before

-- how many digits there are, when the first is written
pub digits_long : (number rest at : ℕ) (columns : List ℕ) → 0 < at → at ≤ length columns → rest < 10 → decimal number ≡ decimal rest ++ drop at columns → length (decimal number) ≡ length columns - (at - 1)
digits_long number rest at columns some here small is =
    let new = set columns (at - 1) (48 + rest % 10) in
    ap length (digit_first number rest at columns some here small is) ∙ length-drop (at - 1) new ∙ ap (λ n. n - (at - 1)) (length-set columns (at - 1) (48 + rest % 10))

-- columns that are full before the number is written
pub digits_lack : (number rest at : ℕ) (columns : List ℕ) → at ≤ 0 → rest < 2 ^ 64 → decimal number ≡ decimal rest ++ drop at columns → length columns < length (decimal number)
digits_lack number rest at columns none small is =
    omega (arith, ap length is, length-append (decimal rest) (drop at columns), length-drop at columns, decimal_nonempty rest small)

-- a number without a sign that has room
pub number_put : (width n : ℕ) (z : ℤ) (fill : Bool) (filler : ℕ) → le_z (pos 0) z ≡ true → n ≡ nat_abs z → filler ≡ cond fill 48 32 → length (decimal n) ≤ width
    → replicate (width - length (decimal n)) filler ++ decimal n ≡ put_whole width fill z
unfolding put_whole
number_put width n (negsuc m) fill filler sign is f room = cc
number_put width n (pos m) true filler sign is f room = rw (is, f) (rw (le-leb (length (decimal m)) width (subst (λ k. length (decimal k) ≤ width) is room)) refl)
number_put width n (pos m) false filler sign is f room = rw (is, f) (rw (le-leb (length (decimal m)) width (subst (λ k. length (decimal k) ≤ width) is room)) refl)
