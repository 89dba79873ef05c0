-- Why a call of the reader ends in an error: a line that isn't taken, or a read.
use Rattle.std.specs.Prelude.{◌≡◌, ◌≢◌, ◌+◌, ◌^◌, ◌⊎◌, ℕ}
use Rattle.cse_value.specs.Device.{FailsOnce, Given, IsUnfailing, Keeps}
use Rattle.cse_case.specs.declared.decode.LineStop.{LineStop}
use Rattle.cse_case.specs.declared.decode.LineStop.TheVariants.{Memory, Fault}
use Rattle.cse_case.specs.declared.error.DataError.{DataError}

-- the error of a line behind so many given ones and so many of the run
abbrev pub IsRefusal : ℕ → ℕ → LineStop → DataError → Type 0
IsRefusal lines n Memory error = (error.number ≡ 90) × (error.line ≡ 0)
IsRefusal lines n (Fault number) error = (error.number ≡ number) × (error.line ≡ lines + n + 1)

-- the error of a read that gave nothing, or that wasn't made since so many gave bytes
pub record IsReadError (before after : Given) (reads : ℕ) (error : DataError) : Type 0 where
  pub kept : Keeps before after
  pub number : (error.number ≡ 70) ⊎ (error.number ≡ 90)
  pub line : error.line ≡ 0
  pub failed : error.number ≡ 70 → FailsOnce before after ⊎ (reads ≡ 2 ^ 40)
  pub sound : error.number ≢ 70 → IsUnfailing before after
