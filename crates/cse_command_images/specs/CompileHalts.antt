-- Why `compile` wrote no image.
use Rattle.std.specs.Prelude.{◌≡◌, ◌⊎◌, ℕ, List, option_map}
use Rattle.cse_value.specs.Device.{Given}
use Rattle.cse_value.specs.declared.device.Reads.{Reads}
use Rattle.cse_dict.specs.Dictionary.{DictionaryText}
use Rattle.cse_meaning.specs.declared.error.BuildFault.{BuildFault}
use Rattle.cse_meaning.specs.Build.{AreSound, IsBuilt, IsFault}
use Rattle.cse_meaning.specs.Fault.{IsReason}
use Rattle.cse_command_parts.specs.declared.plan.CompilePaths.{CompilePaths}
use Rattle.cse_command_parts.specs.declared.outcome.Stop.{Stop}
use Rattle.cse_command_parts.specs.declared.outcome.Stop.TheVariants.{Refused}
use Rattle.cse_command_parts.specs.Apart.{TellsOneFile}
use Rattle.cse_command_parts.specs.Ending.{fault_in_text}
use Rattle.cse_command_parts.specs.Halts.{AtDictionary}
use Rattle.cse_command_parts.specs.Roles.{compile_uses}
use Rattle.cse_command_parts.specs.Stops.{TellsUnwritten}
use Rattle.cse_command_parts.specs.Unread.{AtText, AtTexts}

-- It tells the number, the line and the column of a fault of these texts: of a message file, an order file and logic. Of sound texts it is a
-- limit of the format or of the steps, or want of memory.
pub record TellsBuildFault (d : DictionaryText) (logic messages order : List ℕ) (stop : Stop) : Type 0 where
  pub fault : BuildFault
  pub tells : stop ≡ Refused (fault_in_text fault.number fault.line fault.column)
  pub is_fault : IsFault d logic messages order fault
  pub of_sound : AreSound d logic messages order → IsReason fault

-- `compile`, behind its texts
abbrev pub StopsWriting : DictionaryText → List ℕ → List ℕ → List ℕ → Stop → Type 0
StopsWriting d logic messages order stop =
    TellsBuildFault d logic messages order stop ⊎ ((image : List ℕ) × (IsBuilt d logic messages order image × TellsUnwritten stop))

abbrev pub StopsCompile : {F : Type 0} → (Reads F → Given) → CompilePaths → Stop → Type 0
StopsCompile given p stop =
    TellsOneFile (compile_uses p) stop
    ⊎ AtText given p.dict.now 17 stop (λ text. AtDictionary text stop (λ d.
    AtTexts given p.logic.now (option_map (λ s. s.now) p.messages) (option_map (λ s. s.now) p.order) stop (λ l m o. StopsWriting d l m o stop)))
