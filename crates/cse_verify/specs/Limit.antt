-- The limit on steps.
use Rattle.std.specs.Prelude.{ℕ}

-- the most steps that a call of a routine, and the events of a case, may take: 10^15 (own)
abbrev pub step_limit : ℕ
step_limit = 1000000000000000
