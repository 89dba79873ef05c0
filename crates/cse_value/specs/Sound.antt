-- What the device of a reader keeps: the parts of what it gave, and that it has failed where a read did.
use Rattle.std.specs.Prelude.{◌≡◌, ℕ, Bool, false, List}
use Rattle.std.specs.Coded.{→_prop, Coded-set, coded_ℕ}
use Rattle.cse_value.specs.Device.{Given}

abbrev pub are_given : List ℕ → Bool → ℕ → Given
are_given bytes ended failures = record { bytes = bytes; ended = ended; failures = failures }

-- one that has not failed had no read that did
abbrev pub counts_failures : Bool → ℕ → Type 0
counts_failures failed failures = failed ≡ false → failures ≡ 0

pub unfailed-prop : (failed : Bool) (failures : ℕ) → IsProp (counts_failures failed failures)
unfailed-prop failed failures = →_prop (Coded-set coded_ℕ failures 0)
