-- Laws of fields of blanks and then digits.
use Rattle.std.proofs.Common.{◌≡◌, ℕ, zero, suc, ◌<◌, ◌≤◌, ◌^◌, ◌-◌, ◌+◌, ◌*◌, Bool, true, false, not, cond, eqb, ltb, List, [], ◌∷◌, length, get_or, reverse, Option, Some, None, pos, neg_ℤ, refl, ap, sym, ◌∙◌, arith, subst}
use Rattle.std.specs.Prelude.{ℤ, IfSome}
use Rattle.std.specs.Option.{option_map}
use Rattle.std.specs.List.{list_all}
use Rattle.std.specs.Char.{is_ascii_digit}
use Rattle.std.specs.Str.{IsAscii}
use Rattle.cse_lemmas.proofs.Lists.{list_all-reverse}
use Rattle.cse_case.specs.Bytes.{columns_by}
use Rattle.cse_case.proofs.BytesLaws.{ascii-columns_by}
use Rattle.std.proofs.lemmas.Bool.{and_parts, and_from, cond-true, cond-false, eqb-true, lt-ltb}
use Rattle.std.proofs.lemmas.Bool.Decides.{nat_tests}
use Rattle.std.proofs.lemmas.List.{reverse-reverse}
use Rattle.std.proofs.Math.Nat.{pow-le-pow_right}
use Rattle.std.proofs.lemmas.Str.Ascii.{IsAscii-cons}
use Rattle.cse_value.specs.declared.number.Num.TheVariants.{Missing, NotAppl, Whole}
use Rattle.cse_dict.specs.Dictionary.{DictionaryText, code_at, shape_of}
use Rattle.cse_case.specs.Field.{item_at}
use Rattle.cse_case.specs.Limits.{AreKept, IsPlain}
use Rattle.cse_value.specs.Field.{without_blanks, trimmed, digits_value, digits_number, numeral, in_i64, is_code, value_of, value_of_trimmed, field}
use Rattle.cse_value.proofs.FieldLaws.{without_blanks-none, digit_is_no_minus, digits_have_no_blank}

raised : (i j : ℕ) → i ≤ j → 10 ^ i ≤ 10 ^ j
raised i j h = pow-le-pow_right {n = 10} (omega arith) {i = i} {j = j} h

-- fewer digits than 18, and one more
pub one_more_fits : (i n : ℕ) → i < 18 → n < 10 ^ i → n < 100000000000000000
one_more_fits i n few low =
    let most : 10 ^ i ≤ 10 ^ 17 = raised i 17 (omega arith) in
    omega arith

pub digits_fit : (i n : ℕ) → i ≤ 18 → n < 10 ^ i → n < 1000000000000000000
digits_fit i n few low =
    let most : 10 ^ i ≤ 10 ^ 18 = raised i 18 few in
    omega arith

abbrev not_blank : ℕ → Bool
not_blank c = not (eqb c 32)

pub digit_is_low : (c : ℕ) → is_ascii_digit c ≡ true → c - 48 < 1000000000000000000
digit_is_low c h = grind (arith, nat_tests)

-- the value of digits that are fewer than 19
value_of_digits : (ds : List ℕ) (n : ℕ) (code : Option ℤ) → list_all is_ascii_digit ds ≡ true → digits_number ds ≡ Some n → n < 1000000000000000000 → value_of_trimmed ds code ≡ value_of (Some (pos n)) code
unfolding numeral digits_number
value_of_digits [] n code h e low = cc
value_of_digits (c ∷ cs) n code h e low =
    let unsigned : numeral (c ∷ cs) ≡ Some (pos n) =
    cond-false (eqb c 45) (option_map (λ m. neg_ℤ (pos m)) (digits_number cs)) (option_map pos (digits_number (c ∷ cs)))
    (digit_is_no_minus c (and_parts (is_ascii_digit c) (list_all is_ascii_digit cs) h).0) ∙ ap (option_map pos) e in
    ap (λ v. value_of (in_i64 v) code) unsigned ∙ ap (λ v. value_of v code) (cond-true (ltb n (2 ^ 63)) (Some (pos n)) None (lt-ltb n (2 ^ 63) (omega arith)))

digits_are : (ds : List ℕ) (n : ℕ) → digits_number ds ≡ Some n → list_all is_ascii_digit ds ≡ true
unfolding digits_number
digits_are [] n e = refl
digits_are (c ∷ cs) n e = by (list_all is_ascii_digit (c ∷ cs)) e
  where
    by : (b : Bool) → cond b (Some (digits_value (c ∷ cs))) None ≡ Some n → b ≡ true
    by true e = refl
    by false e = cc

-- a field of blanks
pub field_of_blanks : (columns spelled : List ℕ) (code : Option ℤ) → spelled ≡ without_blanks columns → eqb (length spelled) 0 ≡ true → NotAppl ≡ field columns code
unfolding field trimmed
field_of_blanks columns [] code e h = ap (λ l. value_of_trimmed (reverse (without_blanks (reverse l))) code) e
field_of_blanks columns (c ∷ cs) code e h = absurd (omega (arith, eqb-true (length (c ∷ cs)) 0 h))

-- a field of blanks and then digits
field_of_digits : (columns spelled : List ℕ) (n : ℕ) (code : Option ℤ) → spelled ≡ without_blanks columns → digits_number spelled ≡ Some n → n < 1000000000000000000
    → value_of (Some (pos n)) code ≡ field columns code
unfolding field trimmed
field_of_digits columns spelled n code e is low =
    let digits = digits_are spelled n is in
    let none = digits_have_no_blank spelled digits in
    let all : reverse (without_blanks (reverse spelled)) ≡ spelled = ap reverse (without_blanks-none (reverse spelled) (list_all-reverse not_blank spelled none)) ∙ reverse-reverse spelled in
    sym (ap (λ l. value_of_trimmed (reverse (without_blanks (reverse l))) code) (sym e) ∙ ap (λ l. value_of_trimmed l code) all ∙ value_of_digits spelled n code digits is low)

-- the code, and another number
pub the_code : (columns spelled : List ℕ) (n : ℕ) (code : Option ℤ) → spelled ≡ without_blanks columns → digits_number spelled ≡ Some n → n < 1000000000000000000
    → is_code code (pos n) ≡ true → Missing ≡ field columns code
the_code columns spelled n code e is low same = sym (cond-true (is_code code (pos n)) Missing (Whole (pos n)) same) ∙ field_of_digits columns spelled n code e is low

pub no_code : (columns spelled : List ℕ) (n : ℕ) (code : Option ℤ) → spelled ≡ without_blanks columns → digits_number spelled ≡ Some n → n < 1000000000000000000
    → is_code code (pos n) ≡ false → Whole (pos n) ≡ field columns code
no_code columns spelled n code e is low other = sym (cond-false (is_code code (pos n)) Missing (Whole (pos n)) other) ∙ field_of_digits columns spelled n code e is low

-- the value of digits behind blanks that aren't the code
pub number_of_field : (columns : List ℕ) (n : ℕ) (code : Option ℤ) → digits_number (without_blanks columns) ≡ Some n → n < 1000 → is_code code (pos n) ≡ false → Whole (pos n) ≡ field columns code
number_of_field columns n code is low other = no_code columns (without_blanks columns) n code refl is (omega arith) other

-- digits without blanks
spelled : (c : ℕ) (cs : List ℕ) → list_all is_ascii_digit (c ∷ cs) ≡ true → digits_number (without_blanks (c ∷ cs)) ≡ Some (digits_value (c ∷ cs))
unfolding digits_number
spelled c cs h =
    ap digits_number (without_blanks-none (c ∷ cs) (digits_have_no_blank (c ∷ cs) h))
    ∙ cond-true (list_all is_ascii_digit (c ∷ cs)) (Some (digits_value (c ∷ cs))) None h

pub one_digit : (a : ℕ) → is_ascii_digit a ≡ true → digits_number (without_blanks (a ∷ [])) ≡ Some (a - 48)
one_digit a h = spelled a [] (and_from (is_ascii_digit a) true h refl) ∙ ap Some (let value : digits_value (a ∷ []) ≡ a - 48 = omega arith in value)

pub two_digits : (a b : ℕ) → is_ascii_digit a ≡ true → is_ascii_digit b ≡ true → digits_number (without_blanks (a ∷ b ∷ [])) ≡ Some (10 * (a - 48) + (b - 48))
two_digits a b h k =
    spelled a (b ∷ []) (and_from (is_ascii_digit a) (list_all is_ascii_digit (b ∷ [])) h (and_from (is_ascii_digit b) true k refl))
    ∙ ap Some (let value : digits_value (a ∷ b ∷ []) ≡ 10 * (a - 48) + (b - 48) = omega arith in value)

pub three_digits : (a b c : ℕ) → is_ascii_digit a ≡ true → is_ascii_digit b ≡ true → is_ascii_digit c ≡ true
    → digits_number (without_blanks (a ∷ b ∷ c ∷ [])) ≡ Some (100 * (a - 48) + 10 * (b - 48) + (c - 48))
three_digits a b c h k l =
    spelled a (b ∷ c ∷ []) (and_from (is_ascii_digit a) (list_all is_ascii_digit (b ∷ c ∷ [])) h (and_from (is_ascii_digit b) (list_all is_ascii_digit (c ∷ [])) k (and_from (is_ascii_digit c) true l refl)))
    ∙ ap Some (let value : digits_value (a ∷ b ∷ c ∷ []) ≡ 100 * (a - 48) + 10 * (b - 48) + (c - 48) = omega arith in value)

-- a blank in front
pub blank_before : (a : ℕ) (cs : List ℕ) → a ≡ 32 → without_blanks (a ∷ cs) ≡ without_blanks cs
blank_before a cs e = ap (λ b. without_blanks (b ∷ cs)) e

-- a column alone
pub one_column : (columns : List ℕ) (d : ℕ) → length columns ≡ 1 → columns ≡ get_or columns 0 d ∷ []
one_column [] d h = absurd (omega arith)
one_column (x ∷ []) d h = refl
one_column (x ∷ y ∷ xs) d h = absurd (omega arith)

-- two columns, and three
pub two_columns : (columns : List ℕ) (a b : ℕ) → length columns ≡ 2 → a ≡ get_or columns 0 a → b ≡ get_or columns 1 b → columns ≡ a ∷ b ∷ []
two_columns [] a b h e f = absurd (omega arith)
two_columns (x ∷ []) a b h e f = absurd (omega arith)
two_columns (x ∷ y ∷ []) a b h e f = ap (λ k. k ∷ y ∷ []) (sym e) ∙ ap (λ k. a ∷ k ∷ []) (sym f)
two_columns (x ∷ y ∷ z ∷ zs) a b h e f = absurd (omega arith)

pub three_columns : (columns : List ℕ) (a b c : ℕ) → length columns ≡ 3 → a ≡ get_or columns 0 a → b ≡ get_or columns 1 b → c ≡ get_or columns 2 c → columns ≡ a ∷ b ∷ c ∷ []
three_columns [] a b c h e f g = absurd (omega arith)
three_columns (x ∷ []) a b c h e f g = absurd (omega arith)
three_columns (x ∷ y ∷ []) a b c h e f g = absurd (omega arith)
three_columns (x ∷ y ∷ z ∷ []) a b c h e f g = ap (λ k. k ∷ y ∷ z ∷ []) (sym e) ∙ ap (λ k. a ∷ k ∷ z ∷ []) (sym f) ∙ ap (λ k. a ∷ b ∷ k ∷ []) (sym g)
three_columns (x ∷ y ∷ z ∷ w ∷ ws) a b c h e f g = absurd (omega arith)

-- a column alone that is a digit
pub digit_alone : (columns : List ℕ) (a d : ℕ) (found : Option ℕ) → length columns ≡ 1 → a ≡ get_or columns 0 d → IfSome found (λ n. (is_ascii_digit a ≡ true) × (n ≡ a - 48))
    → IfSome found (λ n. digits_number (without_blanks columns) ≡ Some n)
digit_alone columns a d None one at h = tt
digit_alone columns a d (Some n) one at h =
    ap (λ l. digits_number (without_blanks l)) (one_column columns d one ∙ ap (λ b. b ∷ []) (sym at)) ∙ one_digit a h.0 ∙ ap Some (sym h.1)

-- digits are ASCII, and blanks are
low_digit : (c : ℕ) → is_ascii_digit c ≡ true → c < 128
low_digit c h = grind (arith, nat_tests)

digits_low : (cs : List ℕ) → list_all is_ascii_digit cs ≡ true → IsAscii cs
digits_low [] h k = omega arith
digits_low (c ∷ cs) h zero = low_digit c (and_parts (is_ascii_digit c) (list_all is_ascii_digit cs) h).0
digits_low (c ∷ cs) h (suc k) = digits_low cs (and_parts (is_ascii_digit c) (list_all is_ascii_digit cs) h).1 k

number_low : (cs : List ℕ) (n : ℕ) → digits_number cs ≡ Some n → IsAscii cs
unfolding digits_number
number_low [] n h = cc
number_low (c ∷ cs) n h = by_cases (list_all is_ascii_digit (c ∷ cs)) refl
  where
    by_cases : (t : Bool) → list_all is_ascii_digit (c ∷ cs) ≡ t → IsAscii (c ∷ cs)
    by_cases true e = digits_low (c ∷ cs) e
    by_cases false e = let h' = rw e at h in cc

blank_or_not : (c : ℕ) (cs : List ℕ) (t : Bool) → eqb c 32 ≡ t → (IsAscii (without_blanks cs) → IsAscii cs) → IsAscii (without_blanks (c ∷ cs)) → IsAscii (c ∷ cs)
blank_or_not c cs true e rest h =
    let blank : c ≡ 32 = eqb-true c 32 e in
    let same : without_blanks (c ∷ cs) ≡ without_blanks cs = cond-true (eqb c 32) (without_blanks cs) (c ∷ cs) e in
    IsAscii-cons c cs (omega (arith, blank)) (rest (subst IsAscii same h))
blank_or_not c cs false e rest h = subst IsAscii (cond-false (eqb c 32) (without_blanks cs) (c ∷ cs) e) h

-- what stands behind blanks is ASCII, so all of it is
pub behind_blanks_low : (cs : List ℕ) → IsAscii (without_blanks cs) → IsAscii cs
behind_blanks_low [] h = h
behind_blanks_low (c ∷ cs) h = blank_or_not c cs (eqb c 32) refl (behind_blanks_low cs) h

pub blanks_low : (cs : List ℕ) → without_blanks cs ≡ [] → IsAscii cs
blanks_low cs e = behind_blanks_low cs (subst IsAscii (sym e) (λ k. omega arith))

pub digits_are_ascii : (cs : List ℕ) (n : ℕ) → digits_number (without_blanks cs) ≡ Some n → IsAscii cs
digits_are_ascii cs n e = behind_blanks_low cs (number_low (without_blanks cs) n e)

-- the value of columns whose bytes are ASCII
pub field_of_ascii : (bytes beside : List ℕ) (code : Option ℤ) → IsAscii bytes → field bytes code ≡ field (columns_by bytes beside) code
field_of_ascii bytes beside code ascii = ap (λ l. field l code) (sym (ascii-columns_by bytes beside ascii))

pub empty_is : (cs : List ℕ) → eqb (length cs) 0 ≡ true → cs ≡ []
empty_is [] h = refl
empty_is (c ∷ cs) h = absurd (omega (arith, eqb-true (length (c ∷ cs)) 0 h))

pub two_at : (columns : List ℕ) → length columns ≡ 2 → columns ≡ get_or columns 0 0 ∷ get_or columns 1 0 ∷ []
two_at [] h = absurd (omega (arith, h))
two_at (x ∷ []) h = absurd (omega (arith, h))
two_at (x ∷ y ∷ []) h = refl
two_at (x ∷ y ∷ z ∷ zs) h = absurd (omega (arith, h))

pub three_at : (columns : List ℕ) → length columns ≡ 3 → columns ≡ get_or columns 0 0 ∷ get_or columns 1 0 ∷ get_or columns 2 0 ∷ []
three_at [] h = absurd (omega (arith, h))
three_at (x ∷ []) h = absurd (omega (arith, h))
three_at (x ∷ y ∷ []) h = absurd (omega (arith, h))
three_at (x ∷ y ∷ z ∷ []) h = refl
three_at (x ∷ y ∷ z ∷ v ∷ zs) h = absurd (omega (arith, h))

-- a digit below the limit of codes
pub plain_digit : (d : DictionaryText) (bytes : List ℕ) (a limit : ℕ) (found : Option ℕ) → length bytes ≡ 1 → a ≡ get_or bytes 0 0 → limit ≤ 10 → AreKept d 1 limit
    → IfSome found (λ n. (is_ascii_digit a ≡ true) × (n ≡ a - 48)) → IfSome found (λ n. n < limit) → IfSome found (λ n. IsPlain d bytes n)
plain_digit d bytes a limit None one at most kept digit low = tt
plain_digit d bytes a limit (Some n) one at most kept digit low = record {
  spelled = digit_alone bytes a 0 (Some n) one at digit;
  low = omega (arith, low, most);
  no_code = λ item there wide. kept item there (wide ∙ one) n low;
}

-- and what was found in two or three columns, below their limit
pub plain_found : (d : DictionaryText) (bytes own : List ℕ) (found result : Option ℕ) (most limit : ℕ) → bytes ≡ own → AreKept d (length bytes) limit → most ≤ 1000
    → IfSome found (λ n. digits_number (without_blanks own) ≡ Some n) → IfSome found (λ n. n < most) → IfSome result (λ n. (found ≡ Some n) × (n < limit)) → IfSome result (λ n. IsPlain d bytes n)
plain_found d bytes own found None most limit same kept few is low below = tt
plain_found d bytes own found (Some n) most limit same kept few is low below =
    let its = subst (λ (o : Option ℕ). IfSome o (λ m. digits_number (without_blanks own) ≡ Some m)) below.0 is in
    let under : n < most = subst (λ (o : Option ℕ). IfSome o (λ m. m < most)) below.0 low in
    record {
      spelled = ap (λ l. digits_number (without_blanks l)) same ∙ its;
      low = omega (arith, under, few);
      no_code = λ item there wide. kept item there wide n below.1;
    }

-- such a number is the value of the columns, whatever stands beside their bytes
pub plain_value : (d : DictionaryText) (bytes beside : List ℕ) (n item : ℕ) → IsPlain d bytes n → item < length d.items → (item_at (shape_of d).items item).len ≡ length bytes
    → Whole (pos n) ≡ field (columns_by bytes beside) (code_at d item)
plain_value d bytes beside n item plain there wide =
    number_of_field bytes n (code_at d item) plain.spelled plain.low (plain.no_code item there wide) ∙ field_of_ascii bytes beside (code_at d item) (digits_are_ascii bytes n plain.spelled)
