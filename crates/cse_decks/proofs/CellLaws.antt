-- Laws of the lines of cells.
use Rattle.std.proofs.Common.{◌≡◌, ℕ, suc, ◌-◌, ◌^◌, ◌<◌, ◌≤◌, Bool, true, false, cond, List, [], ◌∷◌, ◌++◌, length, get_or, Option, Some, None, pos, negsuc, refl, ap, sym, ◌∙◌, arith, rules}
use Rattle.std.specs.Prelude.{ℤ, codes, nat_lt}
use Rattle.std.specs.List.{list_all}
use Rattle.std.specs.Str.{bytes_eq}
use Rattle.std.specs.Char.{is_ascii_digit}
use Rattle.std.specs.Fmt.{decimal, signed_decimal}
use Rattle.std.proofs.lemmas.Bool.{and_parts, cond-true, ltb-true, le-leb, le-ltb}
use Rattle.std.proofs.lemmas.Slice.Eq.{bytes_eq-Decides}
use Rattle.std.proofs.lemmas.Fmt.{digits_decimal, decimal_nonempty, length-decimal-le}
use Rattle.cse_value.specs.Number.{fits_i64}
use Rattle.cse_value.specs.Texts.{blanks}
use Rattle.cse_value.specs.declared.number.Num.{Num}
use Rattle.cse_value.specs.declared.number.Num.TheVariants.{Whole, NotAppl, Missing, Undef}
use Rattle.cse_value.specs.Field.{field, fits_num, in_i64, numeral, put, put_whole, kept, stars, filled, has_room, trimmed, value_of, value_of_trimmed, shown}
use Rattle.cse_value.proofs.FieldLaws.{field-put, numerals}
use Rattle.cse_decks.specs.Loading.{cell_of, if_shown}
use Rattle.cse_decks.specs.CellLine.{ReadsCells, ReadsNothingElse}

not_same : (l m : List ℕ) → (l ≡ m → ⊥) → bytes_eq l m ≡ false
not_same l m other = decide (bytes_eq l m) refl
  where
    decide : (b : Bool) → bytes_eq l m ≡ b → bytes_eq l m ≡ false
    decide true e = absurd (other ((bytes_eq-Decides l m).0 e))
    decide false e = e

chain : Bool → Bool → Bool → Bool → Option Num → Option Num
chain a b c d last = cond a (Some NotAppl) (cond b (Some Missing) (cond c (Some Undef) (cond d None last)))

chain_of : List ℕ → Option Num
chain_of l = chain (bytes_eq l (codes "NOTAPPL")) (bytes_eq l (codes "MISSING")) (bytes_eq l (codes "DEFAULT")) (nat_lt 20 (length l)) (if_shown (field l None) l)

cell_of-chain : (l : List ℕ) → cell_of l ≡ chain_of l
unfolding cell_of chain chain_of
cell_of-chain l = refl

chain_last : (a b c d : Bool) (last : Option Num) → a ≡ false → b ≡ false → c ≡ false → d ≡ false → chain a b c d last ≡ last
unfolding chain
chain_last false false false false last h i j k = refl
chain_last true b c d last h i j k = cc
chain_last false true c d last h i j k = cc
chain_last false false true d last h i j k = cc
chain_last false false false true last h i j k = cc

-- ---- a number

no_letter : (c : ℕ) → is_ascii_digit c ≡ true → c < 60
no_letter c h = search (rules, arith)

first_digit : (l : List ℕ) → 0 < length l → list_all is_ascii_digit l ≡ true → get_or l 0 0 < 60
first_digit [] some digits = absurd (omega arith)
first_digit (c ∷ cs) some digits = no_letter c (and_parts (is_ascii_digit c) (list_all is_ascii_digit cs) digits).0

-- the text of a number begins with a sign or a digit, and is short
record IsNumber (l : List ℕ) : Type 0 where
  some : 0 < length l
  first : get_or l 0 0 < 60
  short : length l ≤ 20

signed_decimal_is : (z : ℤ) → fits_i64 z ≡ true → IsNumber (signed_decimal z)
signed_decimal_is (pos n) h =
    let low : n < 2 ^ 63 = ltb-true n (2 ^ 63) h in
    let wide : n < 2 ^ 64 = omega arith in
    let short : length (decimal n) ≤ 19 = length-decimal-le 19 n (omega arith) (omega arith) wide in
    record { some = decimal_nonempty n wide; first = first_digit (decimal n) (decimal_nonempty n wide) (digits_decimal numerals n wide); short = omega arith }
signed_decimal_is (negsuc n) h =
    let low : n < 2 ^ 63 = ltb-true n (2 ^ 63) h in
    let wide : suc n < 2 ^ 64 = omega arith in
    let short : length (decimal (suc n)) ≤ 19 = length-decimal-le 19 (suc n) (omega arith) (omega arith) wide in
    record { some = omega arith; first = omega arith; short = omega arith }

field_shown : (z : ℤ) → fits_i64 z ≡ true → 0 < length (signed_decimal z) → field (signed_decimal z) None ≡ Whole z
unfolding put kept put_whole
field_shown z h some =
    let l = signed_decimal z in
    let room : has_room (length l) z ≡ true = le-leb (length l) (length l) (omega arith) in
    let none : length l - length l ≡ 0 = omega arith in
    let is_put : put (length l) (Whole z) false None ≡ l = cond-true (has_room (length l) z) (filled (length l - length l) false z) (stars (length l)) room ∙ ap (λ n. blanks n ++ l) none in
    let is_kept : kept (length l) (Whole z) None ≡ Whole z = cond-true (has_room (length l) z) (value_of (Some z) None) Undef room in
    sym (ap (λ (m : List ℕ). field m None) is_put) ∙ (field-put l (Whole z) false None some h refl ∙ is_kept)

no_word : (l : List ℕ) (w : ℕ) (ws : List ℕ) → get_or l 0 0 < 60 → 60 ≤ w → bytes_eq l (w ∷ ws) ≡ false
no_word l w ws low high = not_same l (w ∷ ws) (λ e. let first : get_or l 0 0 ≡ w = ap (λ m. get_or m 0 0) e in omega arith)

reads_number : (z : ℤ) → fits_i64 z ≡ true → cell_of (signed_decimal z) ≡ Some (Whole z)
unfolding chain_of
reads_number z h =
    let l = signed_decimal z in
    let is = signed_decimal_is z h in
    let small : nat_lt 20 (length l) ≡ false = le-ltb 20 (length l) is.short in
    let own : if_shown (Whole z) l ≡ Some (Whole z) = cond-true (bytes_eq l l) (Some (Whole z)) None ((bytes_eq-Decides l l).1 refl) in
    cell_of-chain l
    ∙ (chain_last (bytes_eq l (codes "NOTAPPL")) (bytes_eq l (codes "MISSING")) (bytes_eq l (codes "DEFAULT")) (nat_lt 20 (length l)) (if_shown (field l None) l)
    (no_word l 78 _ is.first (omega arith)) (no_word l 77 _ is.first (omega arith)) (no_word l 68 _ is.first (omega arith)) small)
    ∙ (ap (λ (v : Num). if_shown v l) (field_shown z h is.some) ∙ own)

pub reads_cells : ReadsCells
unfolding cell_of
reads_cells (Whole z) h = reads_number z h
reads_cells NotAppl h = refl
reads_cells Missing h = refl
reads_cells Undef h = refl

-- ---- nothing else

shown_back : (line : List ℕ) (w v : Num) (b : Bool) → bytes_eq (shown w) line ≡ b → cond b (Some w) None ≡ Some v → line ≡ shown v
shown_back line w v true h e = let same : w ≡ v = cc in sym ((bytes_eq-Decides (shown w) line).0 h) ∙ ap shown same
shown_back line w v false h e = cc

chain_back : (line : List ℕ) (a b c d : Bool) (w v : Num) → bytes_eq line (codes "NOTAPPL") ≡ a → bytes_eq line (codes "MISSING") ≡ b → bytes_eq line (codes "DEFAULT") ≡ c
    → chain a b c d (if_shown w line) ≡ Some v → line ≡ shown v
unfolding chain
chain_back line true b c d w v h i j e = let same : NotAppl ≡ v = cc in (bytes_eq-Decides line (codes "NOTAPPL")).0 h ∙ ap shown same
chain_back line false true c d w v h i j e = let same : Missing ≡ v = cc in (bytes_eq-Decides line (codes "MISSING")).0 i ∙ ap shown same
chain_back line false false true d w v h i j e = let same : Undef ≡ v = cc in (bytes_eq-Decides line (codes "DEFAULT")).0 j ∙ ap shown same
chain_back line false false false true w v h i j e = cc
chain_back line false false false false w v h i j e = shown_back line w v (bytes_eq (shown w) line) refl e

pub reads_nothing_else : ReadsNothingElse
unfolding chain_of
reads_nothing_else line v e = chain_back line (bytes_eq line (codes "NOTAPPL")) (bytes_eq line (codes "MISSING")) (bytes_eq line (codes "DEFAULT")) (nat_lt 20 (length line)) (field line None) v refl refl refl (sym (cell_of-chain line) ∙ e)

-- ---- within 64 bits

value_fits : (b : Bool) (z : ℤ) → fits_i64 z ≡ b → fits_num (value_of (cond b (Some z) None) None) ≡ true
value_fits true z e = e
value_fits false z e = refl

field_fits_by : (o : Option ℤ) → fits_num (value_of (in_i64 o) None) ≡ true
field_fits_by None = refl
field_fits_by (Some z) = value_fits (fits_i64 z) z refl

trimmed_fits : (columns : List ℕ) → fits_num (value_of_trimmed columns None) ≡ true
trimmed_fits [] = refl
trimmed_fits (c ∷ cs) = field_fits_by (numeral (c ∷ cs))

field_fits : (line : List ℕ) → fits_num (field line None) ≡ true
unfolding field
field_fits line = trimmed_fits (trimmed line)

if_fits : (b : Bool) (w v : Num) → fits_num w ≡ true → cond b (Some w) None ≡ Some v → fits_num v ≡ true
if_fits true w v h e = let same : w ≡ v = cc in ap fits_num (sym same) ∙ h
if_fits false w v h e = cc

chain_fits : (a b c d : Bool) (last : Option Num) (v : Num) → (last ≡ Some v → fits_num v ≡ true) → chain a b c d last ≡ Some v → fits_num v ≡ true
unfolding chain
chain_fits true b c d last v h e = let same : NotAppl ≡ v = cc in ap fits_num (sym same)
chain_fits false true c d last v h e = let same : Missing ≡ v = cc in ap fits_num (sym same)
chain_fits false false true d last v h e = let same : Undef ≡ v = cc in ap fits_num (sym same)
chain_fits false false false true last v h e = cc
chain_fits false false false false last v h e = h e

-- what is read as a cell has 64 bits
pub reads_fitting : (line : List ℕ) (v : Num) → cell_of line ≡ Some v → fits_num v ≡ true
unfolding chain_of
reads_fitting line v e =
    chain_fits (bytes_eq line (codes "NOTAPPL")) (bytes_eq line (codes "MISSING")) (bytes_eq line (codes "DEFAULT")) (nat_lt 20 (length line)) (if_shown (field line None) line) v
    (if_fits (bytes_eq (shown (field line None)) line) (field line None) v (field_fits line)) (sym (cell_of-chain line) ∙ e)
