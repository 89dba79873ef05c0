-- Where a fault of a file of lines is: its number, its line, counted from 1, and column 1.
use Rattle.std.specs.Prelude.{ℕ}
use Rattle.cse_logic_names.specs.declared.error.TypeError.{TypeError}
use Rattle.cse_logic_names.specs.declared.error.FileStop.{FileStop}
use Rattle.cse_logic_names.specs.declared.error.FileStop.TheVariants.{Memory, Fault}

-- a fault of the line as a whole
abbrev pub at_line : ℕ → ℕ → TypeError
at_line number line = record { number = number; line = line; column = 1 }

abbrev pub out_of_memory : TypeError
out_of_memory = record { number = 90; line = 0; column = 0 }

abbrev pub error_of : FileStop → ℕ → TypeError
error_of Memory line = out_of_memory
error_of (Fault number) line = at_line number line
