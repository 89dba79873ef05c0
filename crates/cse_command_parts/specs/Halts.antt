-- Why a command did not come to its run. A file is read only where what comes before it was accepted: so each reason says of the files
-- before it by which paths they were opened, and what they gave.
use Rattle.std.specs.Prelude.{◌≡◌, ◌⊎◌, ℕ, false, List, Option, None, Some, Err, option_map}
use Rattle.cse_value.specs.Device.{Given}
use Rattle.cse_value.specs.declared.device.Reads.{Reads}
use Rattle.cse_image_parts.specs.Image.{Image}
use Rattle.cse_dict.specs.declared.fault.DictError.{DictError}
use Rattle.cse_dict.specs.Dictionary.{DictionaryText, shape_of}
use Rattle.cse_dict.specs.Reading.{IsAnswer}
use Rattle.cse_verify.specs.EventBound.{case_bound}
use Rattle.cse_verify.specs.Verified.{VerifiedProgram}
use Rattle.cse_decks.specs.Store.{Kept}
use Rattle.cse_verify.specs.declared.image.CheckFault.{CheckFault}
use Rattle.cse_verify.specs.Checked.{IsAccepted, IsNoFault, IsRefused}
use Rattle.cse_command_parts.specs.declared.outcome.Stop.{Stop}
use Rattle.cse_command_parts.specs.declared.outcome.Stop.TheVariants.{Refused}
use Rattle.cse_command_parts.specs.declared.plan.RunPaths.{RunPaths}
use Rattle.cse_command_parts.specs.declared.verify_image.VerifyFault.{VerifyFault}
use Rattle.cse_command_parts.specs.Allowed.{steps_allowed}
use Rattle.cse_command_parts.specs.Apart.{TellsOneFile}
use Rattle.cse_command_parts.specs.Ending.{fault_at, fault_of_check, fault_of_verify}
use Rattle.cse_command_parts.specs.Told.{IsStart}
use Rattle.cse_command_parts.specs.Roles.{run_uses}
use Rattle.cse_command_parts.specs.Stops.{IsMemory, IsNotOpened, TellsDeckFault}
use Rattle.cse_command_parts.specs.Unread.{AtBytes, AtDecks, AtText}
use Rattle.cse_command_parts.specs.Vetted.{FailsBy, IsReadAs, is_failed_write}

-- ---- what was read is not accepted; or it is, and behind that the command ended so

-- the dictionary's fault
pub record TellsDictFault (text : List ℕ) (stop : Stop) : Type 0 where
  pub error : DictError
  pub is : IsAnswer text error
  pub tells : stop ≡ Refused (fault_at error.number error.line)

abbrev pub AtDictionary : List ℕ → Stop → (DictionaryText → Type 0) → Type 0
AtDictionary text stop Ends = TellsDictFault text stop ⊎ ((d : DictionaryText) × (IsReadAs text d × Ends d))

-- the dictionary's file was not read, or its text is none's
abbrev pub StopsDict : {F : Type 0} → (Reads F → Given) → List ℕ → Stop → Type 0
StopsDict given path stop = AtText given path 17 stop (λ text. AtDictionary text stop (λ d. ⊥))

-- the first reason against an image
pub record TellsCheckFault (d : DictionaryText) (bytes : List ℕ) (stop : Stop) : Type 0 where
  pub fault : CheckFault
  pub first : IsRefused (shape_of d) bytes fault
  pub only : IsNoFault (shape_of d) bytes fault
  pub tells : stop ≡ Refused (fault_of_check fault)

-- the bytes are those of a program that may run with the dictionary
pub record IsProgram (d : DictionaryText) (bytes : List ℕ) (v : VerifiedProgram) : Type 0 where
  pub same : v.dictionary ≡ d
  pub accepted : IsAccepted (shape_of d) bytes v.image

abbrev pub AtImage : DictionaryText → List ℕ → Stop → (VerifiedProgram → Type 0) → Type 0
AtImage d bytes stop Ends = TellsCheckFault d bytes stop ⊎ ((v : VerifiedProgram) × (IsProgram d bytes v × Ends v))

-- ---- from the program to the outputs

-- there is no store that the run begins with; or there is one, and the data file or an output can't be opened
abbrev pub TellsNoStore : Image → Option (List ℕ) → Stop → Type 0
TellsNoStore x None stop = IsMemory stop
TellsNoStore x (Some text) stop = TellsDeckFault x text stop

abbrev pub StopsStore : Image → Option (List ℕ) → Stop → Type 0
StopsStore x decks stop = TellsNoStore x decks stop ⊎ ((store : Kept) × (IsStart x decks store × IsNotOpened stop))

-- the deck file was not read; or its store, or what is opened behind it, stopped the command
abbrev pub StopsFrom : {F : Type 0} → (Reads F → Given) → RunPaths → (Option (List ℕ) → Stop → Type 0) → Stop → Type 0
StopsFrom given p Begins stop = AtDecks given (option_map (λ s. s.now) p.decks) stop (λ decks. Begins decks stop)

-- a case may take too many steps, or so
abbrev pub StopsWithin : {F : Type 0} → (Reads F → Given) → RunPaths → VerifiedProgram → (Option (List ℕ) → Stop → Type 0) → Stop → Type 0
StopsWithin given p v Begins stop = (steps_allowed p.case_steps (case_bound v.image) ≡ Err stop) ⊎ StopsFrom given p Begins stop

-- ---- the commands

-- `run`, behind its dictionary
abbrev pub StopsImage : {F : Type 0} → (Reads F → Given) → RunPaths → DictionaryText → Stop → Type 0
StopsImage given p d stop =
    AtBytes given p.image.now stop (λ bytes. AtImage d bytes stop (λ v. StopsWithin given p v (StopsStore v.image) stop))

abbrev pub StopsRun : {F : Type 0} → (Reads F → Given) → RunPaths → Stop → Type 0
StopsRun given p stop =
    TellsOneFile (run_uses p) stop ⊎ AtText given p.dict.now 17 stop (λ text. AtDictionary text stop (λ d. StopsImage given p d stop))

-- `verify`: both files are read before one is checked
pub record TellsVerifyFault (text bytes : List ℕ) (stop : Stop) : Type 0 where
  pub fault : VerifyFault
  pub why : is_failed_write fault ≡ false → FailsBy text bytes fault
  pub tells : stop ≡ Refused (fault_of_verify fault)

abbrev pub StopsVerify : {F : Type 0} → (Reads F → Given) → List ℕ → List ℕ → Stop → Type 0
StopsVerify given dict image stop = AtText given dict 17 stop (λ text. AtBytes given image stop (λ bytes. TellsVerifyFault text bytes stop))
