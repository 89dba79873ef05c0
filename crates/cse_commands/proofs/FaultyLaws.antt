-- Which stops are faults, and what becomes of a run whose steps are refused.
use Rattle.std.proofs.Common.{◌≡◌, ℕ, Bool, true, false, List, Option, None, Some, Result, Ok, Err, IfErr, IfSome, IfNone, subst, sym, refl}
use Rattle.cse_value.specs.Device.{Given}
use Rattle.std.specs.Borrow.{Bor}
use Rattle.cse_image_parts.specs.Image.{Image}
use Rattle.cse_verify.specs.Verified.{VerifiedProgram}
use Rattle.cse_decks.specs.Store.{Kept}
use Rattle.cse_batch_parts.specs.RunClauses.{Contents, Failures}
use Rattle.cse_batch_parts.specs.declared.totals.RunFault.{RunFault}
use Rattle.cse_command_parts.specs.declared.outcome.Stop.{Stop}
use Rattle.cse_command_parts.specs.Allowed.{Keeps, KeepsToSteps, steps_allowed}
use Rattle.cse_command_parts.specs.Stops.{HasNumber, IsMemory, TellsDeckFault}
use Rattle.cse_commands.specs.Telling.{TellsRunFault, told_of}

is_told : (lacked : Bool) (fault : RunFault) → HasNumber (told_of lacked fault)
is_told true fault = tt
is_told false fault = tt

-- the fault of a run
pub told_is_fault : (v : VerifiedProgram) (store : Kept) (before after : Given) (old new : List ℕ → Contents) (failed : Bool → Failures)
    (stop : Stop) → TellsRunFault v store before after old new failed stop → HasNumber stop
told_is_fault v store before after old new failed stop t = subst HasNumber (sym t.tells) (is_told t.lacked t.fault)

-- that of a store
pub store_is_fault : (x : Image) (text : Option (Bor (List ℕ))) (r : Result Kept Stop) → IfNone text (IfErr r IsMemory)
    → IfSome text (λ t. IfErr r (TellsDeckFault x t.now)) → IfErr r HasNumber
store_is_fault x None (Ok s) none some = tt
store_is_fault x None (Err stop) none some = subst HasNumber (sym none) tt
store_is_fault x (Some t) (Ok s) none some = tt
store_is_fault x (Some t) (Err stop) none some = subst HasNumber (sym some.tells) tt

-- ---- a run whose steps are allowed, and one whose steps are not

pub keeps : {T : Type 0} (allowed : Option ℕ) (steps bound : ℕ) (done : Result (Unit {0}) Stop) (result : Result T Stop) → steps ≡ bound
    → done ≡ steps_allowed allowed steps → Keeps done result → KeepsToSteps allowed bound result
keeps allowed steps bound done result is said so =
    subst (λ b. KeepsToSteps allowed b result) is (subst (λ d. Keeps d result) said so)
