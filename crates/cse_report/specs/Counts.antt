-- Counts stay at 2^64 - 1 when they reach it.
use Rattle.std.specs.Prelude.{ℕ, ◌+◌, min}

abbrev pub most_count : ℕ
most_count = 18446744073709551615

-- a count, as far as it is kept
abbrev pub capped : ℕ → ℕ
capped n = min n most_count

abbrev pub one_more : ℕ → ℕ
one_more n = capped (n + 1)
