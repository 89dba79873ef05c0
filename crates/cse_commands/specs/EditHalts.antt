-- Why an edit did not come to its run.
use Rattle.std.specs.Prelude.{◌≡◌, ◌⊎◌, ℕ, List, Option, option_map}
use Rattle.cse_value.specs.Device.{Given}
use Rattle.cse_value.specs.declared.device.Reads.{Reads}
use Rattle.cse_image_parts.specs.Image.{Image}
use Rattle.cse_dict.specs.Dictionary.{DictionaryText}
use Rattle.cse_decks.specs.Store.{Kept}
use Rattle.cse_meaning.specs.Build.{IsBuilt}
use Rattle.cse_edit.specs.declared.fault.EditFault.{EditFault}
use Rattle.cse_edit.specs.declared.fault.EditFault.TheVariants as edits
use Rattle.cse_edit.specs.Edit.{IsNoStartOf, IsStartOf}
use Rattle.cse_command_parts.specs.declared.plan.EditPaths.{EditPaths}
use Rattle.cse_command_parts.specs.declared.plan.RunPaths.{RunPaths}
use Rattle.cse_command_parts.specs.declared.fault.Fault.{Fault}
use Rattle.cse_command_parts.specs.declared.outcome.Stop.{Stop}
use Rattle.cse_command_parts.specs.declared.outcome.Stop.TheVariants.{Refused}
use Rattle.cse_command_parts.specs.Apart.{TellsOneFile}
use Rattle.cse_command_parts.specs.Ending.{fault_at, plain_fault}
use Rattle.cse_command_parts.specs.Halts.{AtDictionary, AtImage, StopsWithin}
use Rattle.cse_command_parts.specs.Roles.{edit_uses}
use Rattle.cse_command_parts.specs.Stops.{IsNotOpened}
use Rattle.cse_command_images.specs.CompileHalts.{TellsBuildFault}
use Rattle.cse_command_parts.specs.Unread.{AtText, AtTexts}

-- ---- from the program to the outputs

-- the fault of hot decks that an edit can't begin with
abbrev pub fault_of_start : EditFault → Fault
fault_of_start (edits.Dictionary error) = plain_fault 90
fault_of_start (edits.Logic error) = plain_fault 90
fault_of_start (edits.Decks error) = fault_at error.number error.line
fault_of_start (edits.Run error) = plain_fault 90
fault_of_start edits.Memory = plain_fault 90

-- there is no store that the edit begins with
pub record TellsNoStart (x : Image) (decks : Option (List ℕ)) (stop : Stop) : Type 0 where
  pub fault : EditFault
  pub none : IsNoStartOf x decks fault
  pub tells : stop ≡ Refused (fault_of_start fault)

-- there is none; or there is one, and the data file or an output can't be opened
abbrev pub StopsStart : Image → Option (List ℕ) → Stop → Type 0
StopsStart x decks stop = TellsNoStart x decks stop ⊎ ((store : Kept) × (IsStartOf x decks store × IsNotOpened stop))

-- ---- the command

-- behind its texts
abbrev pub StopsBuilt : {F : Type 0} → (Reads F → Given) → RunPaths → DictionaryText → List ℕ → List ℕ → List ℕ → Stop → Type 0
StopsBuilt given p d logic messages order stop =
    TellsBuildFault d logic messages order stop
    ⊎ ((image : List ℕ) × (IsBuilt d logic messages order image
    × AtImage d image stop (λ v. StopsWithin given p v (StopsStart v.image) stop)))

abbrev pub StopsEdit : {F : Type 0} → (Reads F → Given) → EditPaths → Stop → Type 0
StopsEdit given p stop =
    TellsOneFile (edit_uses p) stop
    ⊎ AtText given p.run.dict.now 17 stop (λ text. AtDictionary text stop (λ d.
    AtTexts given p.logic.now (option_map (λ s. s.now) p.messages) (option_map (λ s. s.now) p.order) stop (λ l m o. StopsBuilt given p.run d l m o stop)))
