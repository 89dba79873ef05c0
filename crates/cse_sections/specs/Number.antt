-- The whole numbers that a text spells: an optional minus sign and one or more digits, within 64 bits.
use Rattle.std.specs.Prelude.{ℕ, ◌+◌, ◌-◌, ◌*◌, ◌^◌, ◌&&◌, ◌==◌, Bool, List, length, [], ◌∷◌, Option, None, Some, if◌then◌else◌, nat_lt, nat_le, fold, ℤ, pos, negsuc, neg_ℤ, int_lt, unsigned_abs}
use Rattle.std.specs.List.{list_all}
use Rattle.std.specs.Option.{option_and_then}
use Rattle.std.specs.Char.{is_ascii_digit}

-- one digit more
abbrev pub with_digit : ℕ → ℕ → ℕ
with_digit n b = 10 * n + (b - 48)

-- the number in decimal
abbrev pub decimal_of : List ℕ → ℕ
decimal_of bytes = fold with_digit 0 bytes

-- one or more digits
abbrev pub are_digits : List ℕ → Bool
are_digits bytes = nat_le 1 (length bytes) && list_all is_ascii_digit bytes

unfoldable pub unsigned_of : List ℕ → Option ℤ
unsigned_of bytes = if are_digits bytes && nat_lt (decimal_of bytes) (2 ^ 63) then Some (pos (decimal_of bytes)) else None

unfoldable pub negated_of : List ℕ → Option ℤ
negated_of bytes = if are_digits bytes && nat_le (decimal_of bytes) (2 ^ 63) then Some (neg_ℤ (pos (decimal_of bytes))) else None

-- the number that the text spells
unfoldable pub whole_of : List ℕ → Option ℤ
whole_of [] = None
whole_of (b ∷ bs) = if b == 45 then negated_of bs else unsigned_of (b ∷ bs)

-- a number from low to high
abbrev pub within : ℕ → ℕ → ℤ → Option ℕ
within low high (pos n) = if nat_le low n && nat_le n high then Some n else None
within low high (negsuc n) = None

-- the number from low to high that the text spells
unfoldable pub number_between : ℕ → ℕ → List ℕ → Option ℕ
number_between low high bytes = option_and_then (within low high) (whole_of bytes)

-- the number in decimal has at most so many characters, its sign counted
unfoldable pub fits_columns : ℕ → ℤ → Bool
fits_columns len z = nat_lt (unsigned_abs z) (10 ^ (if int_lt z (pos 0) then len - 1 else len))
