-- What the program comes to: its exit status, and what it tells on standard error.
use Rattle.std.specs.Prelude.{◌≡◌, ℕ, Bool, false, List, Result}
use Rattle.cse_value.specs.Device.{Appends}
use Rattle.cse_value.specs.Writing.{AppendsFront}
use Rattle.cse_command_parts.specs.declared.outcome.Stop.{Stop}
use Rattle.cse_commands.specs.Does.{CarriesOut}
use Rattle.cse_command_parts.specs.Ending.{exit_status}
use Rattle.cse_command_parts.specs.FaultLine.{outcome_text}
use Rattle.cse_command_parts.specs.Told.{Told}

-- A command came to something. The status is that of what it came to, and so is what was told: all of it, unless the device has failed, and else a front.
pub record EndsProgram {F : Type 0} (t : Told F) (usage : List ℕ) (status : ℕ) (failed : Bool) (old new : List ℕ) : Type 0 where
  pub outcome : Result (Unit {0}) Stop
  pub carried : CarriesOut t outcome
  pub status_is : status ≡ exit_status outcome
  pub front : AppendsFront old new (outcome_text usage outcome)
  pub told : failed ≡ false → Appends old new (outcome_text usage outcome)
