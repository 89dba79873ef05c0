-- What a command came to whose words ask for it.
use Rattle.std.proofs.Common.{inl, inr, ℕ, List, Result}
use Rattle.cse_command_parts.specs.declared.outcome.Stop.{Stop}
use Rattle.cse_command_parts.specs.declared.plan.Command.{Command}
use Rattle.cse_commands.specs.Does.{CarriesOut, DoesUnlessMemory}
use Rattle.cse_command_parts.specs.Told.{Told}
use Rattle.cse_command_parts.specs.Words.{IsAsked}

pub carries : {F : Type 0} (t : Told F) (words : List (List ℕ)) (command : Command) (result : Result (Unit {0}) Stop) → IsAsked words command
    → DoesUnlessMemory t command result → CarriesOut t result
carries t words command result asked does =
    elim does [ inl lacks ↦ inr (inl lacks) | inr done ↦ inr (inr (record { words = words; command = command; asked = asked; does = done })) ]
