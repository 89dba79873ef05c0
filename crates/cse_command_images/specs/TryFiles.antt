-- What `try` comes to over a file: by which path it was opened, what it gave, what was printed, and why the command stopped.
use Rattle.std.specs.Prelude.{◌≡◌, ℕ, false, List, Result, Ok, Err}
use Rattle.cse_value.specs.Device.{Appends, Given}
use Rattle.cse_value.specs.declared.device.Reads.{Reads}
use Rattle.cse_command_parts.specs.declared.fault.Fault.{Fault}
use Rattle.cse_command_parts.specs.declared.judged.TriedFile.{TriedFile}
use Rattle.cse_command_parts.specs.declared.outcome.Stop.{Stop}
use Rattle.cse_command_parts.specs.declared.outcome.Stop.TheVariants.{Refused}
use Rattle.cse_command_parts.specs.Ending.{fault_in_bytes, fault_in_code, plain_fault}
use Rattle.cse_command_parts.specs.Told.{Told}
use Rattle.cse_command_parts.specs.Unread.{AtBytes}
use Rattle.cse_command_images.specs.declared.try_image.TryFault.{TryFault}
use Rattle.cse_command_images.specs.declared.try_image.TryFault.TheVariants as tries
use Rattle.cse_command_images.specs.Tried.{IsRefused, Runs, is_write, text_of}

-- The file was opened by this path, and what it gave may run with the empty dictionary; its preproc took so many steps.
pub record TriesFile {F : Type 0} (t : Told F) (image : List ℕ) (f : TriedFile F) : Type 0 where
  pub path : f.image.input.path.now ≡ image
  pub steps : ℕ
  pub runs : Runs (t.given f.image.input.device).bytes steps

-- the fault that `try` tells
abbrev pub fault_of_try : TryFault → Fault
fault_of_try (tries.Image error) = fault_in_bytes error
fault_of_try (tries.Refused refusal) = fault_in_code refusal
fault_of_try tries.Write = plain_fault 71
fault_of_try tries.Memory = plain_fault 90

-- why the command stopped
pub record TellsTryFault (bytes : List ℕ) (stop : Stop) : Type 0 where
  pub fault : TryFault
  pub why : is_write fault ≡ false → IsRefused bytes fault
  pub tells : stop ≡ Refused (fault_of_try fault)

abbrev pub StopsTry : {F : Type 0} → (Reads F → Given) → List ℕ → Stop → Type 0
StopsTry given image stop = AtBytes given image stop (λ bytes. TellsTryFault bytes stop)

-- `try` prints the messages of the preproc, and its steps
pub record PrintsTrial {F : Type 0} (t : Told F) (image old new : List ℕ) (f : TriedFile F) : Type 0 where
  pub tries : TriesFile t image f
  pub prints : Appends old new (text_of tries.runs)

abbrev pub DoesTry : {F : Type 0} → Told F → List ℕ → Result (Unit {0}) Stop → List ℕ → List ℕ → Type 0
DoesTry {F} t image (Ok done) old new = (f : TriedFile F) × PrintsTrial t image old new f
DoesTry {F} t image (Err stop) old new = StopsTry t.given image stop
