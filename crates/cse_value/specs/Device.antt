-- What an input gave and what an output took.
use Rattle.std.specs.Prelude.{◌≡◌, ◌+◌, ◌<◌, ◌==◌, ℕ, Bool, true, List, ◌++◌, length, take, Result, MatchResult}

-- what an input gave: the bytes of its reads so far, whether the last read that was answered was at its end, and how many reads failed
pub record Given : Type 0 where
  pub bytes : List ℕ
  pub ended : Bool
  pub failures : ℕ

-- in between it gave these bytes
pub record Consumes (before after : Given) (bytes : List ℕ) : Type 0 where
  pub more : after.bytes ≡ before.bytes ++ bytes

-- the last read that was answered was at its end
abbrev pub IsAtEnd : Given → Type 0
IsAtEnd now = now.ended ≡ true

-- in between it gave nothing
pub record Keeps (before after : Given) : Type 0 where
  pub bytes : after.bytes ≡ before.bytes
  pub ended : after.ended ≡ before.ended

-- in between no read failed
abbrev pub IsUnfailing : Given → Given → Type 0
IsUnfailing before after = after.failures ≡ before.failures

-- in between one read failed
abbrev pub FailsOnce : Given → Given → Type 0
FailsOnce before after = after.failures ≡ before.failures + 1

-- one read: at Ok so many bytes of the buffer were given, and, where the buffer has room, none at the end and nowhere else; at Err nothing
abbrev pub ReadGives : {E : Type 0} → Given → Given → Result ℕ E → List ℕ → Type 0
ReadGives old new r buf = MatchResult r (λ n. Consumes old new (take n buf) × (0 < length buf → new.ended ≡ (n == 0))) (λ _. Keeps old new)

-- one read: at Ok it has not failed, and at Err it has
abbrev pub CountsFailure : {T E : Type 0} → Given → Given → Result T E → Type 0
CountsFailure old new r = MatchResult r (λ _. IsUnfailing old new) (λ _. FailsOnce old new)

-- in between an output took these bytes
pub record Appends (before after bytes : List ℕ) : Type 0 where
  pub more : after ≡ before ++ bytes

-- one write: at Ok it took so many bytes of the buffer, and at Err none
abbrev pub WriteTakes : {E : Type 0} → List ℕ → List ℕ → Result ℕ E → List ℕ → Type 0
WriteTakes old new r buf = MatchResult r (λ n. Appends old new (take n buf)) (λ _. new ≡ old)
