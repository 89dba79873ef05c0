-- Why a command over files stops: files that are not opened or not written, and a store that there is not.
use Rattle.std.specs.Prelude.{◌≡◌, ◌⊎◌, ℕ, List, Result, Ok, Err}
use Rattle.cse_image_parts.specs.Image.{Image}
use Rattle.cse_files.specs.declared.fault.WriteFault.{WriteFault}
use Rattle.cse_decks.specs.declared.error.DeckError.{DeckError}
use Rattle.cse_decks.specs.Store.{Kept}
use Rattle.cse_decks.specs.FirstFault.{TellsFirstFault}
use Rattle.cse_command_parts.specs.declared.outcome.Stop.{Stop}
use Rattle.cse_command_parts.specs.declared.outcome.Stop.TheVariants.{Usage, OneFile, TooManySteps, Refused}
use Rattle.cse_command_parts.specs.Ending.{fault_at, number_of_write, plain_fault}

-- a fault, by its number: neither words that are no command nor an image whose cases may take too many steps
abbrev pub HasNumber : Stop → Type 0
HasNumber Usage = ⊥
HasNumber (OneFile first second) = ⊥
HasNumber (TooManySteps steps allowed) = ⊥
HasNumber (Refused fault) = Unit {0}

-- want of memory, which tells nothing else
abbrev pub IsMemory : Stop → Type 0
IsMemory stop = stop ≡ Refused (plain_fault 90)

-- a file that can't be opened, or want of memory
abbrev pub IsNotOpened : Stop → Type 0
IsNotOpened stop = (stop ≡ Refused (plain_fault 72)) ⊎ IsMemory stop

-- 72 where a file can't be opened, 71 where it can't be written or kept, 90 for want of memory
pub record TellsUnwritten (stop : Stop) : Type 0 where
  pub fault : WriteFault
  pub tells : stop ≡ Refused (plain_fault (number_of_write fault))

-- an answer is this store, unless memory ran out
abbrev pub IsStoreOf : Kept → Result Kept Stop → Type 0
IsStoreOf s (Ok answer) = answer ≡ s
IsStoreOf s (Err stop) = IsMemory stop

-- It tells the number and the line of a fault of a deck text: of its first faulty line, unless memory ran out.
pub record TellsDeckFault (x : Image) (text : List ℕ) (stop : Stop) : Type 0 where
  pub error : DeckError
  pub tells : stop ≡ Refused (fault_at error.number error.line)
  pub first : TellsFirstFault x text (Err error)
