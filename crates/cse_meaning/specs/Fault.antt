-- Where a fault of a build is: that of a reader as it was told, or at no place.
use Rattle.std.specs.Prelude.{◌≡◌, ℕ, ◌||◌, nat_eq, IsTrue}
use Rattle.cse_syntax.specs.declared.error.SyntaxError.{SyntaxError}
use Rattle.cse_logic_names.specs.declared.error.TypeError.{TypeError}
use Rattle.cse_meaning.specs.declared.error.BuildFault.{BuildFault}

abbrev pub of_type : TypeError → BuildFault
of_type e = record { number = e.number; line = e.line; column = e.column }

abbrev pub of_syntax : SyntaxError → BuildFault
of_syntax e = record { number = e.number; line = e.line; column = e.column }

abbrev pub at_no_place : ℕ → BuildFault
at_no_place number = record { number = number; line = 0; column = 0 }

-- logic that isn't UTF-8
abbrev pub no_text : BuildFault
no_text = at_no_place 30

abbrev pub out_of_memory : BuildFault
out_of_memory = at_no_place 90

-- 64, 67 or 90: a limit of the format, the steps pass their limit, or want of memory
abbrev pub IsReason : BuildFault → Type 0
IsReason e = IsTrue (nat_eq e.number 64 || (nat_eq e.number 67 || nat_eq e.number 90))
