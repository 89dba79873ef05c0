-- What `run` comes to: what its files gave and took, and what it printed.
use Rattle.std.specs.Prelude.{◌≡◌, ◌⊎◌, ℕ, List, Result, Ok, Err}
use Rattle.cse_batch_parts.specs.declared.totals.Totals.{Totals}
use Rattle.cse_command_parts.specs.declared.plan.RunPaths.{RunPaths}
use Rattle.cse_command_parts.specs.declared.outcome.Stop.{Stop}
use Rattle.cse_command_parts.specs.Halts.{StopsRun}
use Rattle.cse_command_parts.specs.Prints.{Halts, Prints}
use Rattle.cse_command_parts.specs.Told.{Told}
use Rattle.cse_commands.specs.declared.ran.RanFiles.{RanFiles}
use Rattle.cse_commands.specs.declared.ran.RanFrom.{RanFrom}
use Rattle.cse_commands.specs.Counted.{counted}
use Rattle.cse_commands.specs.Ran.{AreRunPaths, RunsFiles}
use Rattle.cse_commands.specs.Telling.{totals_line}

-- what was counted is printed, or the command stopped so and nothing was
abbrev pub PrintsTotals : Result Totals Stop → Result (Unit {0}) Stop → List ℕ → List ℕ → Type 0
PrintsTotals (Ok totals) result old new = Prints (totals_line totals) result old new
PrintsTotals (Err stop) result old new = (result ≡ Err stop) × (new ≡ old)

-- what a run counted whose deck text was kept, or why the command stopped
abbrev pub totals_of : {F : Type 0} → RanFrom F → Result Totals Stop
totals_of ran = counted ran.kept ran.ran.told

-- Files were opened by the paths of `run`, gave and took what makes a run, and its totals were printed.
pub record DidRun {F : Type 0} (t : Told F) (p : RunPaths) (result : Result (Unit {0}) Stop) (old new : List ℕ) : Type 0 where
  pub ran : RanFiles F
  pub paths : AreRunPaths t p ran
  pub runs : RunsFiles t ran
  pub prints : PrintsTotals (totals_of ran.program.run) result old new

abbrev pub DoesRun : {F : Type 0} → Told F → RunPaths → Result (Unit {0}) Stop → List ℕ → List ℕ → Type 0
DoesRun t p result old new = Halts (StopsRun t.given p) result old new ⊎ DidRun t p result old new
