-- The numbers of messages.
use Rattle.std.specs.Prelude.{ℕ, ◌&&◌, nat_le, if◌then◌else◌, Option, Some, None}

-- a number that a message may have
abbrev pub ranged : ℕ → Option ℕ
ranged n = if nat_le 1 n && nat_le n 999999999 then Some n else None
