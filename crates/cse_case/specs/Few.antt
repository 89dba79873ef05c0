-- Numbers of few columns.
use Rattle.std.specs.Prelude.{◌≡◌, ◌<◌, ◌≤◌, ℕ, ℤ, pos, true}
use Rattle.cse_value.specs.Field.{has_room}

-- a whole number that isn't below 0, for which these columns, three at most, have room
abbrev pub IsFew : ℕ → ℤ → Type 0
IsFew width z = (n : ℕ) × (z ≡ pos n) × (n < 1000) × (width ≤ 3) × (has_room width z ≡ true)
