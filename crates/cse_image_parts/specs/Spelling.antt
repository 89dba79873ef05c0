-- How numbers and sections of a binary format are spelled: little endian, and i64 in two's complement.
use Rattle.std.specs.Prelude.{ℕ, ℤ, List, [], ◌++◌, length, IsTrue, nat_le}
use Rattle.std.specs.List.{flat_map}
use Rattle.std.specs.Int.{w64, cast_unsigned}
use Rattle.byteorder.specs.Endian.{little_bytes}
use Rattle.cse_image_parts.specs.Reader.{AllAfter}

infixr 40 ◌⧺◌
abbrev pub ◌⧺◌ : List ℕ → List ℕ → List ℕ
a ⧺ b = a ++ b

abbrev pub u8 : ℕ → List ℕ
u8 n = little_bytes 1 n

abbrev pub u16 : ℕ → List ℕ
u16 n = little_bytes 2 n

abbrev pub u32 : ℕ → List ℕ
u32 n = little_bytes 4 n

abbrev pub i64 : ℤ → List ℕ
i64 z = little_bytes 8 (cast_unsigned w64 z)

-- a count, and the entries
unfoldable pub section : {A : Type 0} → (A → List ℕ) → List A → List ℕ
section entry xs = u32 (length xs) ⧺ flat_map entry xs

-- a section's entries: not too many, and each fits after those before it
pub record SectionFits {A : Type 0} (limit : ℕ) (P : List A → A → Type 0) (xs : List A) : Type 0 where
  pub count : IsTrue (nat_le (length xs) limit)
  pub each : AllAfter P [] xs
