-- The line that tells a fault, and what is told of a command.
use Rattle.std.specs.Prelude.{ℕ, List, [], ◌++◌, Option, None, Some, Result, Ok, Err, codes, decimal}
use Rattle.cse_command_parts.specs.declared.fault.Fault.{Fault}
use Rattle.cse_command_parts.specs.declared.outcome.Stop.{Stop}
use Rattle.cse_command_parts.specs.declared.outcome.Stop.TheVariants.{Usage, OneFile, TooManySteps, Refused}
use Rattle.cse_command_parts.specs.declared.role.Role.{Role}
use Rattle.cse_command_parts.specs.Roles.{word_of}

-- a word and a number, where the number is told
abbrev pub told : List ℕ → Option ℕ → List ℕ
told word None = []
told word (Some number) = word ++ decimal number

-- the number, and after it what is told of the place
abbrev pub fault_text : Fault → List ℕ
fault_text fault =
    told (codes "refused ") (Some fault.number) ++ told (codes " line ") fault.line ++ told (codes " column ") fault.column
    ++ told (codes " byte ") fault.byte ++ told (codes " routine ") fault.routine ++ told (codes " place ") fault.place ++ codes "\n"

-- two words that lead to one file
abbrev pub one_file_text : Role → Role → List ℕ
one_file_text first second = codes "usage: " ++ (word_of first ++ (codes " and " ++ (word_of second ++ codes " are one file, which would be overwritten\n")))

-- a case that may take more steps than are allowed
abbrev pub steps_text : ℕ → ℕ → List ℕ
steps_text steps allowed = codes "a case may take " ++ (decimal steps ++ (codes " steps, above the " ++ (decimal allowed ++ codes " of --case-steps\n")))

-- what is told of a command: nothing of work that is done, the usage of words that are no command, and else the fault
abbrev pub outcome_text : {T : Type 0} → List ℕ → Result T Stop → List ℕ
outcome_text usage (Ok done) = []
outcome_text usage (Err Usage) = usage
outcome_text usage (Err (OneFile first second)) = one_file_text first second
outcome_text usage (Err (TooManySteps steps allowed)) = steps_text steps allowed
outcome_text usage (Err (Refused fault)) = fault_text fault
