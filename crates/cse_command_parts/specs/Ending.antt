-- The exit status of what a command came to, and the faults that it tells.
use Rattle.std.specs.Prelude.{ℕ, ◌==◌, ◌||◌, if◌then◌else◌, Option, None, Some, Result, Ok, Err}
use Rattle.cse_image.specs.declared.error.ImageError.{ImageError}
use Rattle.cse_code_typing.specs.declared.refusal.Refusal.{Refusal}
use Rattle.cse_files.specs.declared.fault.ReadFault.{ReadFault}
use Rattle.cse_files.specs.declared.fault.ReadFault.TheVariants as reads
use Rattle.cse_files.specs.declared.fault.WriteFault.{WriteFault}
use Rattle.cse_files.specs.declared.fault.WriteFault.TheVariants.{NotOpened, NotWritten, Memory}
use Rattle.cse_verify.specs.declared.image.CheckFault.{CheckFault}
use Rattle.cse_verify.specs.declared.image.CheckFault.TheVariants as checks
use Rattle.cse_command_parts.specs.declared.fault.Fault.{Fault}
use Rattle.cse_command_parts.specs.declared.outcome.Asked.{Asked}
use Rattle.cse_command_parts.specs.declared.outcome.Asked.TheVariants.{Open, Read, Write}
use Rattle.cse_command_parts.specs.declared.outcome.Stop.{Stop}
use Rattle.cse_command_parts.specs.declared.outcome.Stop.TheVariants.{Usage, OneFile, TooManySteps, Refused}
use Rattle.cse_command_parts.specs.declared.verify_image.VerifyFault.{VerifyFault}
use Rattle.cse_command_parts.specs.declared.verify_image.VerifyFault.TheVariants as verifies

-- ---- exit statuses

-- of a fault's number: 3 where a device, a file or memory failed, and 1 where something was refused
abbrev pub status_of : ℕ → ℕ
status_of number = if ((number == 70) || (number == 71)) || ((number == 72) || (number == 90)) then 3 else 1

-- of a command
abbrev pub exit_status : {T : Type 0} → Result T Stop → ℕ
exit_status (Ok done) = 0
exit_status (Err Usage) = 2
exit_status (Err (OneFile first second)) = 2
exit_status (Err (TooManySteps steps allowed)) = 1
exit_status (Err (Refused fault)) = status_of fault.number

-- ---- faults, and what they tell of their place

-- a fault that tells its number alone
abbrev pub plain_fault : ℕ → Fault
plain_fault number = record { number = number; line = None; column = None; byte = None; routine = None; place = None }

-- the line, or the column, that a fault tells: 0 stands for none
abbrev pub position_told : ℕ → Option ℕ
position_told position = if position == 0 then None else Some position

-- a fault at a line
abbrev pub fault_at : ℕ → ℕ → Fault
fault_at number line = record { number = number; line = position_told line; column = None; byte = None; routine = None; place = None }

-- a fault at a line and a column
abbrev pub fault_in_text : ℕ → ℕ → ℕ → Fault
fault_in_text number line column = record { number = number; line = position_told line; column = position_told column; byte = None; routine = None; place = None }

-- bytes that are no image: the byte
abbrev pub fault_in_bytes : ImageError → Fault
fault_in_bytes error = record { number = error.number; line = None; column = None; byte = Some error.at; routine = None; place = None }

-- the routine, or the place in it, that a fault tells: the greatest number of 32 bits stands for none
abbrev pub code_told : ℕ → Option ℕ
code_told number = if number == 4_294_967_295 then None else Some number

-- a program that is refused: the routine, and the place in it
abbrev pub fault_in_code : Refusal → Fault
fault_in_code refusal = record { number = refusal.number; line = None; column = None; byte = None; routine = code_told refusal.routine; place = code_told refusal.at }

-- the number of a call that failed, by what was asked
abbrev pub number_asked : Asked → ℕ
number_asked Open = 72
number_asked Read = 70
number_asked Write = 71

-- the number of a file that was not read
abbrev pub number_of_read : ReadFault → ℕ
number_of_read reads.NotOpened = 72
number_of_read reads.NotRead = 70
number_of_read reads.Memory = 90

-- the number of a file that was not written
abbrev pub number_of_write : WriteFault → ℕ
number_of_write NotOpened = 72
number_of_write NotWritten = 71
number_of_write Memory = 90

-- the fault of an image that may not run
abbrev pub fault_of_check : CheckFault → Fault
fault_of_check (checks.Image error) = fault_in_bytes error
fault_of_check (checks.Refused refusal) = fault_in_code refusal
fault_of_check checks.Memory = plain_fault 90

-- the fault that `verify` tells
abbrev pub fault_of_verify : VerifyFault → Fault
fault_of_verify (verifies.Dict error) = fault_at error.number error.line
fault_of_verify (verifies.Check fault) = fault_of_check fault
fault_of_verify verifies.Write = plain_fault 71
