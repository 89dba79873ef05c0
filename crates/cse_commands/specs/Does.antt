-- What a command comes to: what its files gave and took, and what it printed.
use Rattle.std.specs.Prelude.{◌≡◌, ◌⊎◌, ℕ, List, [], Result, Ok, Err}
use Rattle.cse_commands.specs.declared.edited.EditedFiles.{EditedFiles}
use Rattle.cse_command_parts.specs.declared.outcome.Stop.{Stop}
use Rattle.cse_command_parts.specs.declared.outcome.Stop.TheVariants.{Usage, Refused}
use Rattle.cse_command_parts.specs.declared.plan.Command.{Command}
use Rattle.cse_command_parts.specs.declared.plan.Command.TheVariants as commands
use Rattle.cse_command_parts.specs.declared.plan.EditPaths.{EditPaths}
use Rattle.cse_command_parts.specs.declared.printing.TheConstants.{VERSION}
use Rattle.cse_command_images.specs.CompileDoes.{DoesCompile}
use Rattle.cse_commands.specs.Edited.{AreEditPaths, EditsFiles}
use Rattle.cse_command_parts.specs.Ending.{plain_fault}
use Rattle.cse_command_parts.specs.Prints.{DoesVerify, Halts, Prints, write_failed}
use Rattle.cse_commands.specs.RunDoes.{DoesRun, PrintsTotals, totals_of}
use Rattle.cse_command_images.specs.TryFiles.{DoesTry}
use Rattle.cse_commands.specs.EditHalts.{StopsEdit}
use Rattle.cse_command_parts.specs.Printed.{version_line}
use Rattle.cse_command_parts.specs.Told.{Told}
use Rattle.cse_command_parts.specs.Words.{IsAsked}

-- ---- the commands

-- Files were opened by the paths of `edit`, gave and took what makes an edit, and its totals were printed.
pub record DidEdit {F : Type 0} (t : Told F) (p : EditPaths) (result : Result (Unit {0}) Stop) (old new : List ℕ) : Type 0 where
  pub ran : EditedFiles F
  pub paths : AreEditPaths t p ran
  pub edits : EditsFiles t ran
  pub prints : PrintsTotals (totals_of ran.run) result old new

abbrev pub DoesEdit : {F : Type 0} → Told F → EditPaths → Result (Unit {0}) Stop → List ℕ → List ℕ → Type 0
DoesEdit t p result old new = Halts (StopsEdit t.given p) result old new ⊎ DidEdit t p result old new

abbrev pub Does : {F : Type 0} → Told F → Command → Result (Unit {0}) Stop → List ℕ → List ℕ → Type 0
Does t (commands.Try image) result old new = DoesTry t image.now result old new
Does t (commands.Verify dict image) result old new = DoesVerify t dict.now image.now result old new
Does t (commands.Compile p) result old new = DoesCompile t p result old new
Does t (commands.Run p) result old new = DoesRun t p result old new
Does t (commands.Edit p) result old new = DoesEdit t p result old new
Does t commands.Version result old new = Prints (version_line VERSION.now) result old new

-- ---- what was printed went out

-- this text was printed for a command that ended so; behind one that was done the device may have failed
pub record DoesPrinting {F : Type 0} (t : Told F) (command : Command) (result : Result (Unit {0}) Stop) : Type 0 where
  pub printed : List ℕ
  pub outcome : Result (Unit {0}) Stop
  pub does : Does t command outcome [] printed
  pub flushed : (result ≡ outcome) ⊎ ((outcome ≡ Ok tt) × (result ≡ Err write_failed))

abbrev pub DoesUnlessMemory : {F : Type 0} → Told F → Command → Result (Unit {0}) Stop → Type 0
DoesUnlessMemory t command result = (result ≡ Err (Refused (plain_fault 90))) ⊎ DoesPrinting t command result

-- words ask for a command, and it is done
pub record DoesAsked {F : Type 0} (t : Told F) (result : Result (Unit {0}) Stop) : Type 0 where
  pub words : List (List ℕ)
  pub command : Command
  pub asked : IsAsked words command
  pub does : DoesPrinting t command result

-- Words ask for no command, or memory lacks; else a command is done.
abbrev pub CarriesOut : {F : Type 0} → Told F → Result (Unit {0}) Stop → Type 0
CarriesOut t result = (result ≡ Err Usage) ⊎ ((result ≡ Err (Refused (plain_fault 90))) ⊎ DoesAsked t result)
