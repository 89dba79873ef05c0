-- The steps that a case may take, where a number of them is allowed.
use Rattle.std.specs.Prelude.{◌≡◌, ℕ, Option, None, Some, Result, Ok, Err, nat_lt, if◌then◌else◌, IfErr}
use Rattle.cse_command_parts.specs.declared.outcome.Stop.{Stop}
use Rattle.cse_command_parts.specs.declared.outcome.Stop.TheVariants.{TooManySteps}
use Rattle.cse_command_parts.specs.Stops.{HasNumber}

-- a bound is refused where it is above what is allowed
abbrev pub steps_allowed : Option ℕ → ℕ → Result (Unit {0}) Stop
steps_allowed None steps = Ok tt
steps_allowed (Some allowed) steps = if nat_lt allowed steps then Err (TooManySteps steps allowed) else Ok tt

-- What a run comes to is that refusal where its image's bound is refused, and elsewhere never is.
abbrev pub Keeps : {T : Type 0} → Result (Unit {0}) Stop → Result T Stop → Type 0
Keeps (Ok done) result = IfErr result HasNumber
Keeps (Err stop) result = result ≡ Err stop

abbrev pub KeepsToSteps : {T : Type 0} → Option ℕ → ℕ → Result T Stop → Type 0
KeepsToSteps allowed steps result = Keeps (steps_allowed allowed steps) result
