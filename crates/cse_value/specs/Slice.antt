-- What the device of a slice gave.
use Rattle.std.specs.Prelude.{◌≡◌, ◌≤◌, ℕ, Bool, true, List, ◌∷◌, ◌++◌, length, take}
use Rattle.std.specs.Coded.{le_prop, →_prop, Coded-set, coded_ℕ}
use Rattle.cse_value.specs.Device.{Given, IsAtEnd}
use Rattle.cse_value.specs.Sound.{are_given}

-- a mark that tells which bytes follow it
abbrev pub mark : List ℕ → List ℕ
mark bytes = length bytes ∷ bytes

-- So many of the bytes, behind their mark, which was there before the first read: with it, what is given tells of which bytes it is a front.
abbrev pub given_of : List ℕ → ℕ → Bool → Given
given_of bytes count ended = are_given (mark bytes ++ take count bytes) ended 0

pub within-prop : (count : ℕ) (bytes : List ℕ) → IsProp (count ≤ length bytes)
within-prop count bytes = le_prop

-- it is at the end where all were given
abbrev pub at_end : List ℕ → ℕ → Bool → Type 0
at_end bytes count ended = ended ≡ true → count ≡ length bytes

pub at_end-prop : (bytes : List ℕ) (count : ℕ) (ended : Bool) → IsProp (at_end bytes count ended)
at_end-prop bytes count ended = →_prop (Coded-set coded_ℕ count (length bytes))

-- of the bytes these were read
pub record ReadOf (bytes read : List ℕ) (now : Given) : Type 0 where
  pub rest : List ℕ
  pub is : bytes ≡ read ++ rest
  pub end : IsAtEnd now → read ≡ bytes
  pub sound : now.failures ≡ 0
