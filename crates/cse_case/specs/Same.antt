-- What bytes tell of whether columns are the same.
use Rattle.std.specs.Prelude.{◌≡◌, ◌≤◌, ℕ, List, Bool, false, length, take}
use Rattle.std.specs.Str.{IsAscii, bytes_eq}
use Rattle.cse_case.specs.Bytes.{columns_by}
use Rattle.cse_case.specs.declared.same.Front.{Front}
use Rattle.cse_case.specs.declared.same.Front.TheVariants.{Same, Other, Beyond}

-- whatever stands beside these bytes, the columns are the same or not
abbrev pub Tells : List ℕ → List ℕ → Bool → Type 0
Tells a b same = (there here : List ℕ) → same ≡ bytes_eq (columns_by a there) (columns_by b here)

-- so many bytes from the front are the same, and ASCII
pub record IsSameFront (a b : List ℕ) (n : ℕ) : Type 0 where
  pub fits : n ≤ length a
  pub same : take n a ≡ take n b
  pub ascii : IsAscii (take n a)

-- this is so of the bytes
abbrev pub IsFront : List ℕ → List ℕ → Front → Type 0
IsFront a b (Same n) = IsSameFront a b n
IsFront a b Other = Tells a b false
IsFront a b Beyond = Unit {0}
