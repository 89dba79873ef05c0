-- Limits below which no number is the code of an item.
use Rattle.std.specs.Prelude.{◌≡◌, ◌<◌, ◌≤◌, ℕ, ℤ, pos, false, List, length, Option, Some}
use Rattle.cse_value.specs.Field.{digits_number, is_code, without_blanks}
use Rattle.cse_dict.specs.Dictionary.{DictionaryText, code_at, shape_of}
use Rattle.cse_case.specs.Field.{item_at}

-- no number below the limit is the code
abbrev pub IsKept : ℕ → Option ℤ → Type 0
IsKept limit code = (n : ℕ) → n < limit → is_code code (pos n) ≡ false

-- nor is it the code of one of the first items that has so many columns
abbrev pub AreKeptUpTo : ℕ → DictionaryText → ℕ → ℕ → Type 0
AreKeptUpTo count d len limit = (item : ℕ) → item < count → (item_at (shape_of d).items item).len ≡ len → IsKept limit (code_at d item)

-- nor that of any item of so many columns
abbrev pub AreKept : DictionaryText → ℕ → ℕ → Type 0
AreKept d len limit = AreKeptUpTo (length d.items) d len limit

-- the limits for items of one column, and for those of two and three; below the first one are digits
pub record AreLimits (d : DictionaryText) (digit_limit limit : ℕ) : Type 0 where
  pub digits : digit_limit ≤ 10
  pub one : AreKept d 1 digit_limit
  pub two : AreKept d 2 limit
  pub three : AreKept d 3 limit

-- the columns are blanks and then the digits of this number, which is low and the code of no item of so many columns
pub record IsPlain (d : DictionaryText) (columns : List ℕ) (n : ℕ) : Type 0 where
  pub spelled : digits_number (without_blanks columns) ≡ Some n
  pub low : n < 1000
  pub no_code : (item : ℕ) → item < length d.items → (item_at (shape_of d).items item).len ≡ length columns → is_code (code_at d item) (pos n) ≡ false
