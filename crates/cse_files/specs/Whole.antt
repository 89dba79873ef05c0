-- A file that was read whole, or why it was not.
use Rattle.std.specs.Prelude.{◌≡◌, ◌<◌, ◌⊎◌, ℕ, List, length}
use Rattle.cse_value.specs.Device.{FailsOnce, Given, IsAtEnd, IsUnfailing}
use Rattle.cse_value.specs.declared.device.Reads.{Reads}
use Rattle.cse_files.specs.declared.fault.ReadFault.{ReadFault}
use Rattle.cse_files.specs.declared.fault.ReadFault.TheVariants.{NotOpened, NotRead, Memory}
use Rattle.cse_files.specs.declared.opened.OpenedInput.{OpenedInput}

-- These are all the bytes that it gave, and no read failed. They end where it does, unless they are more than were allowed.
pub record IsWhole (now : Given) (bytes : List ℕ) (most : ℕ) : Type 0 where
  pub gave : now.bytes ≡ bytes
  pub sound : now.failures ≡ 0
  pub end : IsAtEnd now ⊎ (most < length bytes)

-- These are all the bytes that it gave to its end, and no read failed.
pub record IsAll (now : Given) (bytes : List ℕ) : Type 0 where
  pub gave : now.bytes ≡ bytes
  pub sound : now.failures ≡ 0
  pub end : IsAtEnd now

-- why a device was not read: a read of it failed; or memory lacked, and no read failed
abbrev pub StopsReading : Given → Given → ReadFault → Type 0
StopsReading before after NotOpened = ⊥
StopsReading before after NotRead = FailsOnce before after
StopsReading before after Memory = IsUnfailing before after

-- A file was opened by this path, and one read of it failed.
pub record HasFailedRead {F : Type 0} (given : Reads F → Given) (path : List ℕ) : Type 0 where
  pub file : OpenedInput F
  pub opened : file.path.now ≡ path
  pub failed : (given file.device).failures ≡ 1

-- why a file was not read: it could not be opened; it was, and a read failed; or memory lacked
abbrev pub IsUnread : {F : Type 0} → (Reads F → Given) → List ℕ → ReadFault → Type 0
IsUnread given path NotOpened = Unit {0}
IsUnread given path NotRead = HasFailedRead given path
IsUnread given path Memory = Unit {0}
