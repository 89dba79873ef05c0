-- Laws of a number that is written into a few columns.
use Rattle.std.proofs.Common.{◌≡◌, ℕ, Bool, true, false, cond, ◌+◌, ◌-◌, ◌/◌, ◌%◌, ◌<◌, ◌≤◌, List, [], ◌∷◌, ◌++◌, length, replicate, ap, sym, ◌∙◌, arith, append_assoc, length-append, slice_set}
use Rattle.std.proofs.Common.{◌^◌, inl, inr, refl}
use Rattle.std.proofs.lemmas.Bool.{cases_lt}
use Rattle.std.proofs.lemmas.Fmt.{decimal_digit, decimal_step}
use Rattle.std.specs.Fmt.{decimal}
use Rattle.std.specs.Str.{IsAscii}
use Rattle.std.proofs.lemmas.Fmt.{IsAscii-decimal}
use Rattle.std.proofs.lemmas.Str.{IsAscii-append}
use Rattle.cse_lemmas.proofs.Texts.{IsAscii-replicate}

-- a number behind a character, in so many columns
abbrev pub aligned : ℕ → ℕ → ℕ → List ℕ
aligned width filler n = replicate (width - length (decimal n)) filler ++ decimal n

-- a digit alone
pub digit_alone : (width filler n : ℕ) → n < 10 → aligned (width + 1) filler n ≡ replicate width filler ++ ((48 + n) ∷ [])
digit_alone width filler n small =
    ap (λ ds. replicate (width + 1 - length ds) filler ++ ds) (decimal_digit n small)
    ∙ ap (λ k. replicate k filler ++ ((48 + n) ∷ [])) (let one : width + 1 - 1 ≡ width = omega arith in one)

-- the last digit, and those before it
pub digit_behind : (width filler n : ℕ) → 10 ≤ n → n < 1000 → aligned (width + 1) filler n ≡ aligned width filler (n / 10) ++ ((48 + n % 10) ∷ [])
digit_behind width filler n more small =
    let front = decimal (n / 10) in
    let last = (48 + n % 10) ∷ [] in
    let long : width + 1 - length (front ++ last) ≡ width - length front = omega (arith, length-append front last) in
    ap (λ ds. replicate (width + 1 - length ds) filler ++ ds) (decimal_step n more (omega arith))
    ∙ ap (λ k. replicate k filler ++ (front ++ last)) long
    ∙ sym (append_assoc (replicate (width - length front) filler) front last)

-- two columns
pub two_low : (filler n d : ℕ) → n < 10 → d ≡ 48 + n → filler ∷ d ∷ [] ≡ aligned 2 filler n
two_low filler n d small is = ap (λ x. filler ∷ x ∷ []) is ∙ sym (digit_alone 1 filler n small)

pub two_high : (filler n a b : ℕ) → 10 ≤ n → n < 100 → a ≡ 48 + n / 10 → b ≡ 48 + n % 10 → a ∷ b ∷ [] ≡ aligned 2 filler n
two_high filler n a b more small first last =
    ap (λ x. x ∷ b ∷ []) first ∙ ap (λ x. (48 + n / 10) ∷ x ∷ []) last
    ∙ sym (digit_behind 1 filler n more (omega arith) ∙ ap (λ l. l ++ ((48 + n % 10) ∷ [])) (digit_alone 0 filler (n / 10) (omega arith)))

-- three columns
pub three_low : (filler n d : ℕ) → n < 10 → d ≡ 48 + n → filler ∷ filler ∷ d ∷ [] ≡ aligned 3 filler n
three_low filler n d small is = ap (λ x. filler ∷ filler ∷ x ∷ []) is ∙ sym (digit_alone 2 filler n small)

pub three_high : (filler n a b d : ℕ) → 10 ≤ n → n < 1000 → a ∷ b ∷ [] ≡ aligned 2 filler (n / 10) → d ≡ 48 + n % 10 → a ∷ b ∷ d ∷ [] ≡ aligned 3 filler n
three_high filler n a b d more small front last =
    ap (λ l. l ++ (d ∷ [])) front ∙ ap (λ x. aligned 2 filler (n / 10) ++ (x ∷ [])) last ∙ sym (digit_behind 2 filler n more small)

-- a column alone
pub one_column : (columns : List ℕ) (filler n d : ℕ) → length columns ≡ 1 → n < 10 → d ≡ 48 + n → slice_set columns 0 d ≡ aligned (length columns) filler n
one_column [] filler n d one small is = absurd (omega arith)
one_column (x ∷ []) filler n d one small is = ap (λ y. y ∷ []) is ∙ sym (digit_alone 0 filler n small)
one_column (x ∷ y ∷ ys) filler n d one small is = absurd (omega arith)

-- all columns of two, and of three
pub two_set : (columns : List ℕ) (a b : ℕ) → length columns ≡ 2 → slice_set (slice_set columns 0 a) 1 b ≡ a ∷ b ∷ []
two_set [] a b len = absurd (omega arith)
two_set (x ∷ []) a b len = absurd (omega arith)
two_set (x ∷ y ∷ []) a b len = refl
two_set (x ∷ y ∷ z ∷ rest) a b len = absurd (omega arith)

pub three_set : (columns : List ℕ) (a b d : ℕ) → length columns ≡ 3 → slice_set (slice_set (slice_set columns 0 a) 1 b) 2 d ≡ a ∷ b ∷ d ∷ []
three_set [] a b d len = absurd (omega arith)
three_set (x ∷ []) a b d len = absurd (omega arith)
three_set (x ∷ y ∷ []) a b d len = absurd (omega arith)
three_set (x ∷ y ∷ z ∷ []) a b d len = refl
three_set (x ∷ y ∷ z ∷ w ∷ rest) a b d len = absurd (omega arith)

pub one_has_room : (columns : List ℕ) (n : ℕ) → length columns ≡ 1 → n < 10 → length (decimal n) ≤ length columns
one_has_room columns n one small = omega (arith, ap length (decimal_digit n small))

-- how many digits a number has at least
one_digit : (n : ℕ) → n < 2 ^ 64 → 1 ≤ length (decimal n)
one_digit n small = elim (cases_lt n 10) [
  | inl low ↦ omega (arith, ap length (decimal_digit n low))
  | inr high ↦ omega (arith, ap length (decimal_step n high small), length-append (decimal (n / 10)) ((48 + n % 10) ∷ []))
]

one_more : (n k : ℕ) → 10 ≤ n → n < 2 ^ 64 → k ≤ length (decimal (n / 10)) → k + 1 ≤ length (decimal n)
one_more n k high small h = omega (arith, h, ap length (decimal_step n high small), length-append (decimal (n / 10)) ((48 + n % 10) ∷ []))

pub two_digits : (n : ℕ) → 10 ≤ n → n < 2 ^ 64 → 2 ≤ length (decimal n)
two_digits n high small = one_more n 1 high small (one_digit (n / 10) (omega arith))

pub three_digits : (n : ℕ) → 100 ≤ n → n < 2 ^ 64 → 3 ≤ length (decimal n)
three_digits n high small = one_more n 2 (omega arith) small (two_digits (n / 10) (omega arith) (omega arith))

pub four_digits : (n : ℕ) → 1000 ≤ n → n < 2 ^ 64 → 4 ≤ length (decimal n)
four_digits n high small = one_more n 3 (omega arith) small (three_digits (n / 10) (omega arith) (omega arith))

-- few digits with blanks or zeros before them are ASCII
pub few_ascii : (k n : ℕ) (fill : Bool) → n < 1000 → IsAscii (replicate k (cond fill 48 32) ++ decimal n)
few_ascii k n true low = IsAscii-append (replicate k 48) (decimal n) (IsAscii-replicate k 48 (omega arith)) (IsAscii-decimal n (omega (arith, low)))
few_ascii k n false low = IsAscii-append (replicate k 32) (decimal n) (IsAscii-replicate k 32 (omega arith)) (IsAscii-decimal n (omega (arith, low)))
