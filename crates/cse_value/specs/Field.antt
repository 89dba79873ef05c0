-- What the columns of a field mean, and what they are after a write. A column is a character, and a
-- blank is U+0020. An item may have a code, the number that stands for `missing` in its fields.
use Rattle.std.specs.Prelude.{◌≡◌, ◌<◌, ℕ, suc, ◌+◌, ◌-◌, ◌*◌, ◌==◌, Bool, true, false, nat_le, if◌then◌else◌, ℤ, pos, negsuc, neg_ℤ, List, [], ◌∷◌, ◌++◌, length, take, replicate, reverse, fold, codes, Option, Some, None}
use Rattle.std.specs.List.{list_all}
use Rattle.std.specs.Option.{option_map}
use Rattle.std.specs.Char.{is_ascii_digit}
use Rattle.std.specs.Fmt.{decimal, signed_decimal}
use Rattle.std.specs.Ordering.{int_eq}
use Rattle.cse_value.specs.Number.{fits_i64}
use Rattle.cse_value.specs.Texts.{blanks, padded}
use Rattle.cse_value.specs.declared.number.Num.{Num}
use Rattle.cse_value.specs.declared.number.Num.TheVariants.{Whole, NotAppl, Missing, Undef}

-- the columns without the blanks in front
abbrev pub without_blanks : List ℕ → List ℕ
without_blanks [] = []
without_blanks (c ∷ cs) = if c == 32 then without_blanks cs else c ∷ cs

-- the columns without the blanks at both ends
unfoldable pub trimmed : List ℕ → List ℕ
trimmed columns = reverse (without_blanks (reverse (without_blanks columns)))

-- what digits come to, from the left
abbrev pub digits_value : List ℕ → ℕ
digits_value digits = fold (λ n c. 10 * n + (c - 48)) 0 digits

-- the number that one or more digits spell
unfoldable pub digits_number : List ℕ → Option ℕ
digits_number [] = None
digits_number (c ∷ cs) = if list_all is_ascii_digit (c ∷ cs) then Some (digits_value (c ∷ cs)) else None

-- the whole number that a minus sign or none, and one or more digits spell
unfoldable pub numeral : List ℕ → Option ℤ
numeral [] = None
numeral (c ∷ cs) = if c == 45 then option_map (λ n. neg_ℤ (pos n)) (digits_number cs) else option_map pos (digits_number (c ∷ cs))

-- the number, if 64 bits hold it
abbrev pub in_i64 : Option ℤ → Option ℤ
in_i64 None = None
in_i64 (Some z) = if fits_i64 z then Some z else None

-- the number is the code
abbrev pub is_code : Option ℤ → ℤ → Bool
is_code None z = false
is_code (Some code) z = int_eq code z

-- the value of a number, if there is one
abbrev pub value_of : Option ℤ → Option ℤ → Num
value_of None code = Undef
value_of (Some z) code = if is_code code z then Missing else Whole z

-- the value of columns without blanks at both ends
abbrev pub value_of_trimmed : List ℕ → Option ℤ → Num
value_of_trimmed [] code = NotAppl
value_of_trimmed (c ∷ cs) code = value_of (in_i64 (numeral (c ∷ cs))) code

-- the value of a field: blanks are NotAppl, the code is Missing, another number of 64 bits is itself,
-- and all else is Undef
unfoldable pub field : List ℕ → Option ℤ → Num
field columns code = value_of_trimmed (trimmed columns) code

abbrev pub stars : ℕ → List ℕ
stars width = replicate width 42

-- a number, right aligned in so many columns more, with blanks in front or with zeros after its sign
abbrev pub filled : ℕ → Bool → ℤ → List ℕ
filled room false z = blanks room ++ signed_decimal z
filled room true (pos n) = replicate room 48 ++ decimal n
filled room true (negsuc n) = 45 ∷ (replicate room 48 ++ decimal (suc n))

-- so many columns have room for the number
abbrev pub has_room : ℕ → ℤ → Bool
has_room width z = nat_le (length (signed_decimal z)) width

-- the columns of a number
unfoldable pub put_whole : ℕ → Bool → ℤ → List ℕ
put_whole width fill z = if has_room width z then filled (width - length (signed_decimal z)) fill z else stars width

-- the columns of `missing`
abbrev pub put_missing : ℕ → Bool → Option ℤ → List ℕ
put_missing width fill None = stars width
put_missing width fill (Some code) = put_whole width fill code

-- the columns of a field of this width after a write of the value
unfoldable pub put : ℕ → Num → Bool → Option ℤ → List ℕ
put width (Whole z) fill code = put_whole width fill z
put width NotAppl fill code = blanks width
put width Missing fill code = put_missing width fill code
put width Undef fill code = stars width

-- what a field of this width keeps of a value
unfoldable pub kept : ℕ → Num → Option ℤ → Num
kept width (Whole z) code = if has_room width z then value_of (Some z) code else Undef
kept width NotAppl code = NotAppl
kept width Missing None = Undef
kept width Missing (Some code) = if has_room width code then Missing else Undef
kept width Undef code = Undef

-- 64 bits hold the value, and the code
abbrev pub fits_num : Num → Bool
fits_num (Whole z) = fits_i64 z
fits_num NotAppl = true
fits_num Missing = true
fits_num Undef = true

abbrev pub fits_code : Option ℤ → Bool
fits_code None = true
fits_code (Some code) = fits_i64 code

-- Reading what was written into one column or more gives what the field keeps of it.
abbrev pub ReadsWhatWasPut : Type 0
ReadsWhatWasPut = (columns : List ℕ) (value : Num) (fill : Bool) (code : Option ℤ) → 0 < length columns → fits_num value ≡ true → fits_code code ≡ true
    → field (put (length columns) value fill code) code ≡ kept (length columns) value code

-- the columns of a field of this width after a write of the text, which is cut or padded with blanks
abbrev pub put_text : ℕ → List ℕ → List ℕ
put_text width text = take width (padded width text)

-- A write keeps the number of columns, of a number and of a text.
abbrev pub PutKeepsWidth : Type 0
PutKeepsWidth = (width : ℕ) (value : Num) (fill : Bool) (code : Option ℤ) → length (put width value fill code) ≡ width

abbrev pub PutTextKeepsWidth : Type 0
PutTextKeepsWidth = (width : ℕ) (text : List ℕ) → length (put_text width text) ≡ width

-- the text of a value in a message
abbrev pub shown : Num → List ℕ
shown (Whole z) = signed_decimal z
shown NotAppl = codes "NOTAPPL"
shown Missing = codes "MISSING"
shown Undef = codes "DEFAULT"
