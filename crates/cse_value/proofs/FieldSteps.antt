-- What the steps of reading and writing a number make of its columns.
use Rattle.std.proofs.Common.{◌≡◌, ◌≢◌, ℕ, suc, ◌+◌, ◌-◌, ◌^◌, ◌<◌, ◌≤◌, min, Bool, true, false, eqb, ltb, List, [], ◌∷◌, ◌++◌, length, take, drop, get_or, set, replicate, Option, Some, None, pos, negsuc, neg_ℤ, ap, sym, ◌∙◌, inl, inr, arith}
use Rattle.std.specs.Prelude.{ℤ}
use Rattle.std.specs.Option.{option_map}
use Rattle.std.specs.Fmt.{decimal, signed_decimal}
use Rattle.std.proofs.lemmas.Bool.{ltb-true, cond-true, cond-false, cases_lt, le-leb, lt-leb, le-ltb, eq-eqb, ne_eqb}
use Rattle.std.proofs.lemmas.Bool.Decides.{nat_tests}
use Rattle.std.proofs.lemmas.List.{get_or_read, take_rest}
use lib.Signed.{lt_z}
use Rattle.cse_value.specs.Field.{digits_number, numeral, in_i64, stars, filled, has_room, put_whole}

-- a size is kept at one more than the greatest of 64 bits
abbrev pub top : ℕ
top = 9223372036854775809

numeral-signed : (s : List ℕ) → 0 < length s → get_or s 0 0 ≡ 45 → numeral s ≡ option_map (λ n. neg_ℤ (pos n)) (digits_number (drop 1 s))
unfolding numeral
numeral-signed [] some h = absurd (omega arith)
numeral-signed (c ∷ cs) some h = cond-true (eqb c 45) (option_map (λ n. neg_ℤ (pos n)) (digits_number cs)) (option_map pos (digits_number (c ∷ cs))) (eq-eqb c 45 h)

numeral-unsigned : (s : List ℕ) → 0 < length s → get_or s 0 0 ≢ 45 → numeral s ≡ option_map pos (digits_number s)
unfolding numeral
numeral-unsigned [] some h = absurd (omega arith)
numeral-unsigned (c ∷ cs) some h = cond-false (eqb c 45) (option_map (λ n. neg_ℤ (pos n)) (digits_number cs)) (option_map pos (digits_number (c ∷ cs))) (ne_eqb c 45 h)

-- a size beyond the top and the top are both beyond 64 bits
pos-min : (n : ℕ) → in_i64 (Some (pos (min n top))) ≡ in_i64 (Some (pos n))
pos-min n = grind (arith, nat_tests)

neg-min : (n : ℕ) → in_i64 (Some (neg_ℤ (pos (min n top)))) ≡ in_i64 (Some (neg_ℤ (pos n)))
neg-min n = elim (cases_lt n top) [
  | inl low ↦ let e : min n top ≡ n = omega arith in ap (λ m. in_i64 (Some (neg_ℤ (pos m)))) e
  | inr high ↦
      let e : min n top ≡ top = omega arith in
      let k : n ≡ suc (n - 1) = omega arith in
      let beyond : ltb (n - 1) (2 ^ 63) ≡ false = le-ltb (n - 1) (2 ^ 63) (omega arith) in
      ap (λ m. in_i64 (Some (neg_ℤ (pos m)))) e
      ∙ sym (ap (λ m. in_i64 (Some (neg_ℤ (pos m)))) k ∙ cond-false (ltb (n - 1) (2 ^ 63)) (Some (negsuc (n - 1))) None beyond)
]

-- the number of a size that digits spell, kept at the top
signed : (o : Option ℕ) (size : Option ℕ) → size ≡ option_map (λ n. min n top) o
    → in_i64 (option_map (λ n. neg_ℤ (pos n)) size) ≡ in_i64 (option_map (λ n. neg_ℤ (pos n)) o)
signed None size e = ap (λ v. in_i64 (option_map (λ n. neg_ℤ (pos n)) v)) e
signed (Some n) size e = ap (λ v. in_i64 (option_map (λ n. neg_ℤ (pos n)) v)) e ∙ neg-min n

unsigned : (o : Option ℕ) (size : Option ℕ) → size ≡ option_map (λ n. min n top) o
    → in_i64 (option_map pos size) ≡ in_i64 (option_map pos o)
unsigned None size e = ap (λ v. in_i64 (option_map pos v)) e
unsigned (Some n) size e = ap (λ v. in_i64 (option_map pos v)) e ∙ pos-min n

-- the number behind a minus sign, and one without a sign
pub in_i64-signed : (s rest : List ℕ) (c : ℕ) (size : Option ℕ) → 0 < length s → c ≡ get_or s 0 c → c ≡ 45 → rest ≡ take (length s - 1) (drop 1 s)
    → size ≡ option_map (λ n. min n top) (digits_number rest) → in_i64 (option_map (λ n. neg_ℤ (pos n)) size) ≡ in_i64 (numeral s)
in_i64-signed s rest c size some at is cut e =
    let first : get_or s 0 0 ≡ 45 = sym (get_or_read s 0 c some at 0) ∙ is in
    let all : rest ≡ drop 1 s = cut ∙ take_rest s 1 in
    signed (digits_number rest) size e ∙ ap (λ l. in_i64 (option_map (λ n. neg_ℤ (pos n)) (digits_number l))) all ∙ ap in_i64 (sym (numeral-signed s some first))

pub in_i64-unsigned : (s : List ℕ) (c : ℕ) (size : Option ℕ) → 0 < length s → c ≡ get_or s 0 c → (c ≡ 45 → ⊥)
    → size ≡ option_map (λ n. min n top) (digits_number s) → in_i64 (option_map pos size) ≡ in_i64 (numeral s)
in_i64-unsigned s c size some at other e =
    let first : get_or s 0 0 ≢ 45 = λ h. other (get_or_read s 0 c some at 0 ∙ h) in
    unsigned (digits_number s) size e ∙ ap in_i64 (sym (numeral-unsigned s some first))

-- the columns of a number that has no room
pub put_whole-stars : (width : ℕ) (fill : Bool) (z : ℤ) (text : List ℕ) → text ≡ signed_decimal z → width < length text → stars width ≡ put_whole width fill z
unfolding put_whole
put_whole-stars width fill z text e h =
    sym (cond-false (has_room width z) (filled (width - length (signed_decimal z)) fill z) (stars width) (lt-leb (length (signed_decimal z)) width (omega (arith, ap length e))))

-- the columns of a number that has room
put_whole-room : (width : ℕ) (fill : Bool) (z : ℤ) → length (signed_decimal z) ≤ width → put_whole width fill z ≡ filled (width - length (signed_decimal z)) fill z
unfolding put_whole
put_whole-room width fill z h = cond-true (has_room width z) (filled (width - length (signed_decimal z)) fill z) (stars width) (le-leb (length (signed_decimal z)) width h)

pub put_whole-blanks : (width : ℕ) (z : ℤ) (text : List ℕ) → text ≡ signed_decimal z → length text ≤ width → replicate (width - length text) 32 ++ text ≡ put_whole width false z
put_whole-blanks width z text e h =
    ap (λ l. replicate (width - length l) 32 ++ l) e ∙ sym (put_whole-room width false z (omega (arith, ap length e)))

pub put_whole-zeros : (width : ℕ) (z : ℤ) (text : List ℕ) → text ≡ signed_decimal z → length text ≤ width → lt_z z (pos 0) ≡ false → replicate (width - length text) 48 ++ text ≡ put_whole width true z
put_whole-zeros width (pos n) text e h low =
    ap (λ l. replicate (width - length l) 48 ++ l) e ∙ sym (put_whole-room width true (pos n) (omega (arith, ap length e)))
put_whole-zeros width (negsuc n) text e h low = cc

-- a minus sign over the first of one zero or more
minus_over : (width room : ℕ) (ds : List ℕ) → width ≡ room + 1 + length ds → set (replicate (width - length ds) 48 ++ ds) 0 45 ≡ 45 ∷ (replicate room 48 ++ ds)
minus_over width room ds e =
    let k : width - length ds ≡ suc room = omega arith in
    ap (λ n. set (replicate n 48 ++ ds) 0 45) k

pub put_whole-minus : (width : ℕ) (z : ℤ) (text digits columns : List ℕ) → text ≡ signed_decimal z → length text ≤ width → lt_z z (pos 0) ≡ true
    → digits ≡ take (length text - 1) (drop 1 text) → columns ≡ replicate (width - length digits) 48 ++ digits → set columns 0 45 ≡ put_whole width true z
put_whole-minus width (pos n) text digits columns e h low cut is = absurd (omega (arith, ltb-true n 0 low))
put_whole-minus width (negsuc n) text digits columns e h low cut is =
    let ds : List ℕ = decimal (suc n) in
    let all : digits ≡ ds = cut ∙ take_rest text 1 ∙ ap (drop 1) e in
    let room : length ds + 1 ≤ width = omega (arith, ap length e) in
    ap (λ l. set l 0 45) is ∙ ap (λ l. set (replicate (width - length l) 48 ++ l) 0 45) all
    ∙ minus_over width (width - suc (length ds)) ds (omega arith)
    ∙ sym (put_whole-room width true (negsuc n) (omega arith))
