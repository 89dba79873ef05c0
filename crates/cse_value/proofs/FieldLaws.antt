-- Laws of fields: what is read of what was written.
use Rattle.std.proofs.Common.{◌≡◌, ℕ, zero, suc, ◌+◌, ◌-◌, ◌*◌, ◌^◌, ◌<◌, Bool, true, false, not, cond, eqb, List, [], ◌∷◌, ◌++◌, length, replicate, reverse, fold, Option, Some, None, pos, negsuc, neg_ℤ, refl, ap, sym, ◌∙◌, arith, rules, append-nil}
use Rattle.std.specs.Prelude.{ℤ}
use Rattle.std.specs.Option.{option_map}
use Rattle.std.specs.List.{list_all}
use Rattle.std.specs.Char.{is_ascii_digit}
use Rattle.std.specs.Fmt.{decimal, signed_decimal}
use Rattle.std.proofs.lemmas.Bool.{and_parts, and_from, not-true, cond-true, cond-false, ltb-true}
use Rattle.std.proofs.lemmas.Bool.Decides.{nat_tests, Decides-int_eq}
use Rattle.std.proofs.lemmas.List.{reverse-reverse, length-append}
use Rattle.std.proofs.lemmas.Str.Parse.{IsNumeralModel, numerals_by_fold}
use Rattle.std.proofs.lemmas.Fmt.{digits_decimal, digits_value-decimal, decimal_nonempty}
use Rattle.cse_lemmas.proofs.Lists.{list_all-reverse}
use Rattle.cse_value.specs.Number.{fits_i64}
use Rattle.cse_value.specs.Texts.{blanks}
use Rattle.cse_value.specs.declared.number.Num.TheVariants.{Whole, NotAppl, Missing, Undef}
use Rattle.cse_value.specs.Field.{without_blanks, trimmed, digits_value, digits_number, numeral, in_i64, is_code, value_of, value_of_trimmed, field, stars, filled, has_room, put_whole, put, kept, ReadsWhatWasPut}

abbrev not_blank : ℕ → Bool
not_blank c = not (eqb c 32)

pub without_blanks-none : (cs : List ℕ) → list_all not_blank cs ≡ true → without_blanks cs ≡ cs
without_blanks-none [] h = refl
without_blanks-none (c ∷ cs) h = cond-false (eqb c 32) (without_blanks cs) (c ∷ cs) (not-true (eqb c 32) (and_parts (not_blank c) (list_all not_blank cs) h).0)

without_blanks-blanks : (k : ℕ) (cs : List ℕ) → without_blanks (blanks k ++ cs) ≡ without_blanks cs
without_blanks-blanks zero cs = refl
without_blanks-blanks (suc k) cs = without_blanks-blanks k cs

trimmed-blanks_before : (k : ℕ) (cs : List ℕ) → trimmed (blanks k ++ cs) ≡ trimmed cs
unfolding trimmed
trimmed-blanks_before k cs = ap (λ l. reverse (without_blanks (reverse l))) (without_blanks-blanks k cs)

trimmed-none : (cs : List ℕ) → list_all not_blank cs ≡ true → trimmed cs ≡ cs
unfolding trimmed
trimmed-none cs h =
    ap (λ l. reverse (without_blanks (reverse l))) (without_blanks-none cs h)
    ∙ ap reverse (without_blanks-none (reverse cs) (list_all-reverse not_blank cs h)) ∙ reverse-reverse cs

trimmed-blanks : (k : ℕ) → trimmed (blanks k) ≡ []
unfolding trimmed
trimmed-blanks k = ap trimmed (sym (append-nil (blanks k))) ∙ trimmed-blanks_before k []

-- digits as the library counts them
pub numerals : IsNumeralModel (λ ds. list_all is_ascii_digit ds ≡ true) digits_value
numerals = numerals_by_fold (λ ds. list_all is_ascii_digit ds ≡ true) (search rules) (λ n ds. fold (λ n c. 10 * n + (c - 48)) n ds) (search rules)

pub digits_number-digits : (ds : List ℕ) → 0 < length ds → list_all is_ascii_digit ds ≡ true → digits_number ds ≡ Some (digits_value ds)
unfolding digits_number
digits_number-digits [] some h = absurd (omega arith)
digits_number-digits (c ∷ cs) some h = cond-true (list_all is_ascii_digit (c ∷ cs)) (Some (digits_value (c ∷ cs))) None h

pub digits_number-other : (ds : List ℕ) → list_all is_ascii_digit ds ≡ false → digits_number ds ≡ None
unfolding digits_number
digits_number-other [] h = refl
digits_number-other (c ∷ cs) h = cond-false (list_all is_ascii_digit (c ∷ cs)) (Some (digits_value (c ∷ cs))) None h

-- columns without blanks that spell a number
record Spells (cs : List ℕ) (z : ℤ) : Type 0 where
  none : list_all not_blank cs ≡ true
  is : numeral cs ≡ Some z

pub digit_is_no_blank : (c : ℕ) → is_ascii_digit c ≡ true → not_blank c ≡ true
digit_is_no_blank c h = grind (arith, nat_tests)

pub digit_is_no_minus : (c : ℕ) → is_ascii_digit c ≡ true → eqb c 45 ≡ false
digit_is_no_minus c h = grind (arith, nat_tests)

pub digits_have_no_blank : (ds : List ℕ) → list_all is_ascii_digit ds ≡ true → list_all not_blank ds ≡ true
digits_have_no_blank [] h = refl
digits_have_no_blank (c ∷ cs) h =
    let parts = and_parts (is_ascii_digit c) (list_all is_ascii_digit cs) h in
    and_from (not_blank c) (list_all not_blank cs) (digit_is_no_blank c parts.0) (digits_have_no_blank cs parts.1)

numeral-digits : (ds : List ℕ) → 0 < length ds → list_all is_ascii_digit ds ≡ true → numeral ds ≡ Some (pos (digits_value ds))
unfolding numeral
numeral-digits [] some h = absurd (omega arith)
numeral-digits (c ∷ cs) some h =
    cond-false (eqb c 45) (option_map (λ n. neg_ℤ (pos n)) (digits_number cs)) (option_map pos (digits_number (c ∷ cs)))
    (digit_is_no_minus c (and_parts (is_ascii_digit c) (list_all is_ascii_digit cs) h).0)
    ∙ ap (option_map pos) (digits_number-digits (c ∷ cs) some h)

numeral-minus : (ds : List ℕ) → 0 < length ds → list_all is_ascii_digit ds ≡ true → numeral (45 ∷ ds) ≡ Some (neg_ℤ (pos (digits_value ds)))
unfolding numeral
numeral-minus ds some h = rw (digits_number-digits ds some h) refl

-- zeros in front change no number
digits_value-zeros : (k : ℕ) (ds : List ℕ) → digits_value (replicate k 48 ++ ds) ≡ digits_value ds
digits_value-zeros zero ds = refl
digits_value-zeros (suc k) ds = digits_value-zeros k ds

zeros_are_digits : (k : ℕ) (ds : List ℕ) → list_all is_ascii_digit ds ≡ true → list_all is_ascii_digit (replicate k 48 ++ ds) ≡ true
zeros_are_digits zero ds h = h
zeros_are_digits (suc k) ds h = zeros_are_digits k ds h

-- the digits of n with zeros in front
record Padded (ds : List ℕ) (n : ℕ) : Type 0 where
  some : 0 < length ds
  digits : list_all is_ascii_digit ds ≡ true
  value : digits_value ds ≡ n

padded_decimal : (k n : ℕ) → n < 2 ^ 64 → Padded (replicate k 48 ++ decimal n) n
padded_decimal k n h = record {
  some = omega (arith, length-append (replicate k 48) (decimal n), decimal_nonempty n h);
  digits = zeros_are_digits k (decimal n) (digits_decimal numerals n h);
  value = digits_value-zeros k (decimal n) ∙ digits_value-decimal numerals n h;
}

Spells-digits : (ds : List ℕ) (n : ℕ) → Padded ds n → Spells ds (pos n)
Spells-digits ds n p = record {
  none = digits_have_no_blank ds p.digits;
  is = numeral-digits ds p.some p.digits ∙ ap (λ v. Some (pos v)) p.value;
}

Spells-minus : (ds : List ℕ) (n : ℕ) → Padded ds (suc n) → Spells (45 ∷ ds) (negsuc n)
Spells-minus ds n p = record {
  none = digits_have_no_blank ds p.digits;
  is = numeral-minus ds p.some p.digits ∙ ap (λ v. Some (neg_ℤ (pos v))) p.value;
}

Spells-decimal : (z : ℤ) → fits_i64 z ≡ true → Spells (signed_decimal z) z
Spells-decimal (pos n) h = Spells-digits (decimal n) n (padded_decimal 0 n (let low : n < 2 ^ 63 = ltb-true n (2 ^ 63) h in omega arith))
Spells-decimal (negsuc n) h = Spells-minus (decimal (suc n)) n (padded_decimal 0 (suc n) (let low : n < 2 ^ 63 = ltb-true n (2 ^ 63) h in omega arith))

Spells-zeros : (room : ℕ) (z : ℤ) → fits_i64 z ≡ true → Spells (filled room true z) z
Spells-zeros room (pos n) h = Spells-digits (replicate room 48 ++ decimal n) n (padded_decimal room n (let low : n < 2 ^ 63 = ltb-true n (2 ^ 63) h in omega arith))
Spells-zeros room (negsuc n) h = Spells-minus (replicate room 48 ++ decimal (suc n)) n (padded_decimal room (suc n) (let low : n < 2 ^ 63 = ltb-true n (2 ^ 63) h in omega arith))

-- the value of columns that spell a number
value_of_spelled : (cs : List ℕ) (z : ℤ) (code : Option ℤ) → numeral cs ≡ Some z → fits_i64 z ≡ true → value_of_trimmed cs code ≡ value_of (Some z) code
unfolding numeral
value_of_spelled [] z code e h = cc
value_of_spelled (c ∷ cs) z code e h = ap (λ v. value_of (in_i64 v) code) e ∙ ap (λ v. value_of v code) (cond-true (fits_i64 z) (Some z) None h)

field-Spells : (k : ℕ) (cs : List ℕ) (z : ℤ) (code : Option ℤ) → Spells cs z → fits_i64 z ≡ true → field (blanks k ++ cs) code ≡ value_of (Some z) code
unfolding field
field-Spells k cs z code s h =
    ap (λ l. value_of_trimmed l code) (trimmed-blanks_before k cs ∙ trimmed-none cs s.none) ∙ value_of_spelled cs z code s.is h

field-filled : (room : ℕ) (fill : Bool) (z : ℤ) (code : Option ℤ) → fits_i64 z ≡ true → field (filled room fill z) code ≡ value_of (Some z) code
field-filled room false z code h = field-Spells room (signed_decimal z) z code (Spells-decimal z h) h
field-filled room true z code h = field-Spells 0 (filled room true z) z code (Spells-zeros room z h) h

field-blanks : (k : ℕ) (code : Option ℤ) → field (blanks k) code ≡ NotAppl
unfolding field
field-blanks k code = ap (λ l. value_of_trimmed l code) (trimmed-blanks k)

stars_have_no_blank : (k : ℕ) → list_all not_blank (stars k) ≡ true
stars_have_no_blank zero = refl
stars_have_no_blank (suc k) = stars_have_no_blank k

field-stars : (k : ℕ) (code : Option ℤ) → 0 < k → field (stars k) code ≡ Undef
unfolding field numeral digits_number
field-stars zero code h = absurd (omega arith)
field-stars (suc k) code h = ap (λ l. value_of_trimmed l code) (trimmed-none (stars (suc k)) (stars_have_no_blank (suc k)))

field-put_whole : (width : ℕ) (fill : Bool) (z : ℤ) (code : Option ℤ) → 0 < width → fits_i64 z ≡ true → field (put_whole width fill z) code ≡ cond (has_room width z) (value_of (Some z) code) Undef
unfolding put_whole
field-put_whole width fill z code some h = by_room (has_room width z)
  where
    by_room : (room : Bool) → field (cond room (filled (width - length (signed_decimal z)) fill z) (stars width)) code ≡ cond room (value_of (Some z) code) Undef
    by_room true = field-filled (width - length (signed_decimal z)) fill z code h
    by_room false = field-stars width code some

is_code-same : (z : ℤ) → is_code (Some z) z ≡ true
is_code-same z = (Decides-int_eq z z).1 refl

-- what was written is read as what the field keeps
pub field-put : ReadsWhatWasPut
unfolding put kept
field-put columns (Whole z) fill code some h g = field-put_whole (length columns) fill z code some h
field-put columns NotAppl fill code some h g = field-blanks (length columns) code
field-put columns Missing fill None some h g = field-stars (length columns) None some
field-put columns Missing fill (Some code) some h g =
    field-put_whole (length columns) fill code (Some code) some g
    ∙ ap (λ v. cond (has_room (length columns) code) v Undef) (cond-true (is_code (Some code) code) Missing (Whole code) (is_code-same code))
field-put columns Undef fill code some h g = field-stars (length columns) code some
