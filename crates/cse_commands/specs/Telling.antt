-- What is told of a run: what it counted, and its fault.
use Rattle.std.specs.Prelude.{◌≡◌, ℕ, Bool, true, false, List, [], ◌++◌, codes, decimal}
use Rattle.cse_value.specs.Device.{Given}
use Rattle.cse_verify.specs.Verified.{VerifiedProgram}
use Rattle.cse_decks.specs.Store.{Kept}
use Rattle.cse_batch_parts.specs.declared.totals.RunFault.{RunFault}
use Rattle.cse_batch_parts.specs.declared.totals.Totals.{Totals}
use Rattle.cse_batch_parts.specs.RunClauses.{Contents, Failures, RunStops}
use Rattle.cse_command_parts.specs.declared.outcome.Stop.{Stop}
use Rattle.cse_command_parts.specs.declared.outcome.Stop.TheVariants.{Refused}
use Rattle.cse_command_parts.specs.Ending.{fault_at, plain_fault}

-- what it counted
abbrev pub totals_line : Totals → List ℕ
totals_line t = codes "cases " ++ decimal t.cases ++ codes " lines " ++ decimal t.lines ++ codes " unseen " ++ decimal t.unseen ++ codes "\n"

-- what is told of the fault of a run: want of memory, where the gathered deck text found no place
abbrev pub told_of : Bool → RunFault → Stop
told_of true fault = Refused (plain_fault 90)
told_of false fault = Refused (fault_at fault.number fault.line)

-- It tells the fault of a run, whose outputs hold what is said of such a run. The deck text was gathered beside them.
pub record TellsRunFault (v : VerifiedProgram) (store : Kept) (before after : Given) (old new : List ℕ → Contents) (failed : Bool → Failures) (stop : Stop) : Type 0 where
  pub fault : RunFault
  pub gathered : List ℕ
  pub lacked : Bool
  pub stops : RunStops v store before after (old []) (new gathered) (failed lacked) fault
  pub tells : stop ≡ told_of lacked fault
