-- Files of a command that were not read, and files that gave bytes: each by the path that it was opened by.
use Rattle.std.specs.Prelude.{◌≡◌, ◌<◌, ◌⊎◌, ℕ, List, [], Option, None, Some, length}
use Rattle.cse_value.specs.Device.{Given, IsAtEnd}
use Rattle.cse_value.specs.declared.device.Reads.{Reads}
use Rattle.cse_files.specs.declared.fault.ReadFault.{ReadFault}
use Rattle.cse_files.specs.declared.whole.WholeFile.{WholeFile}
use Rattle.cse_files.specs.Whole.{IsUnread}
use Rattle.cse_command_parts.specs.declared.files.TheConstants.{MOST_TEXT}
use Rattle.cse_command_parts.specs.declared.outcome.Stop.{Stop}
use Rattle.cse_command_parts.specs.declared.outcome.Stop.TheVariants.{Refused}
use Rattle.cse_command_parts.specs.Ending.{number_of_read, plain_fault}

-- ---- files that were not read

-- 72 where a file can't be opened, 70 where it was opened by this path and a read failed, 90 for want of memory
pub record TellsUnread {F : Type 0} (given : Reads F → Given) (path : List ℕ) (stop : Stop) : Type 0 where
  pub fault : ReadFault
  pub unread : IsUnread given path fault
  pub tells : stop ≡ Refused (plain_fault (number_of_read fault))

abbrev pub TellsUnreadIfNamed : {F : Type 0} → (Reads F → Given) → Option (List ℕ) → Stop → Type 0
TellsUnreadIfNamed given None stop = ⊥
TellsUnreadIfNamed given (Some path) stop = TellsUnread given path stop

-- a file was opened by this path and gave more than a text may have, which is told by this number
pub record TellsTooLong {F : Type 0} (given : Reads F → Given) (path : List ℕ) (number : ℕ) (stop : Stop) : Type 0 where
  pub file : WholeFile F
  pub opened : file.input.path.now ≡ path
  pub long : MOST_TEXT < length (given file.input.device).bytes
  pub tells : stop ≡ Refused (plain_fault number)

abbrev pub TellsNoText : {F : Type 0} → (Reads F → Given) → List ℕ → ℕ → Stop → Type 0
TellsNoText given path number stop = TellsUnread given path stop ⊎ TellsTooLong given path number stop

abbrev pub TellsNoTextIfNamed : {F : Type 0} → (Reads F → Given) → Option (List ℕ) → ℕ → Stop → Type 0
TellsNoTextIfNamed given None number stop = ⊥
TellsNoTextIfNamed given (Some path) number stop = TellsNoText given path number stop

-- ---- files that were read

-- a file was opened by this path and gave these bytes
pub record Gave {F : Type 0} (given : Reads F → Given) (path bytes : List ℕ) : Type 0 where
  pub file : WholeFile F
  pub opened : file.input.path.now ≡ path
  pub gave : (given file.input.device).bytes ≡ bytes

-- the same, to its end
pub record GaveAll {F : Type 0} (given : Reads F → Given) (path bytes : List ℕ) : Type 0 where
  pub file : WholeFile F
  pub opened : file.input.path.now ≡ path
  pub gave : (given file.input.device).bytes ≡ bytes
  pub end : IsAtEnd (given file.input.device)

-- a text that is empty where none is named
abbrev pub GaveAllIfNamed : {F : Type 0} → (Reads F → Given) → Option (List ℕ) → List ℕ → Type 0
GaveAllIfNamed given None text = text ≡ []
GaveAllIfNamed given (Some path) text = GaveAll given path text

-- the bytes of a file that may be named, and may be there
abbrev pub GaveIfThere : {F : Type 0} → (Reads F → Given) → Option (List ℕ) → Option (List ℕ) → Type 0
GaveIfThere given path None = Unit {0}
GaveIfThere given None (Some bytes) = ⊥
GaveIfThere given (Some path) (Some bytes) = Gave given path bytes

-- ---- a file was not read; or it gave something, and behind that the command ended so

abbrev pub AtBytes : {F : Type 0} → (Reads F → Given) → List ℕ → Stop → (List ℕ → Type 0) → Type 0
AtBytes given path stop Ends = TellsUnread given path stop ⊎ ((bytes : List ℕ) × (Gave given path bytes × Ends bytes))

abbrev pub AtText : {F : Type 0} → (Reads F → Given) → List ℕ → ℕ → Stop → (List ℕ → Type 0) → Type 0
AtText given path number stop Ends = TellsNoText given path number stop ⊎ ((text : List ℕ) × (GaveAll given path text × Ends text))

abbrev pub AtNamed : {F : Type 0} → (Reads F → Given) → Option (List ℕ) → ℕ → Stop → (List ℕ → Type 0) → Type 0
AtNamed given path number stop Ends = TellsNoTextIfNamed given path number stop ⊎ ((text : List ℕ) × (GaveAllIfNamed given path text × Ends text))

abbrev pub AtDecks : {F : Type 0} → (Reads F → Given) → Option (List ℕ) → Stop → (Option (List ℕ) → Type 0) → Type 0
AtDecks given path stop Ends = TellsUnreadIfNamed given path stop ⊎ ((decks : Option (List ℕ)) × (GaveIfThere given path decks × Ends decks))

-- logic, the messages and the edit order, one after the other
abbrev pub AtTexts : {F : Type 0} → (Reads F → Given) → List ℕ → Option (List ℕ) → Option (List ℕ) → Stop
    → (List ℕ → List ℕ → List ℕ → Type 0) → Type 0
AtTexts given logic messages order stop Ends =
    AtText given logic 64 stop (λ l. AtNamed given messages 64 stop (λ m. AtNamed given order 64 stop (λ o. Ends l m o)))

-- one of them was not read
abbrev pub StopsTexts : {F : Type 0} → (Reads F → Given) → List ℕ → Option (List ℕ) → Option (List ℕ) → Stop → Type 0
StopsTexts given logic messages order stop = AtTexts given logic messages order stop (λ l m o. ⊥)
