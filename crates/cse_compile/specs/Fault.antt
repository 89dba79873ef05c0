-- Why no program is made.
use Rattle.std.specs.Prelude.{◌||◌, nat_eq, IsTrue}
use Rattle.cse_compile.specs.declared.error.CompileError.{CompileError}

abbrev pub out_of_memory : CompileError
out_of_memory = record { number = 90 }

-- 64 or 90: a limit of the format, or want of memory
abbrev pub IsLimit : CompileError → Type 0
IsLimit e = IsTrue (nat_eq e.number 64 || nat_eq e.number 90)

-- these, or 67: the steps pass their limit
abbrev pub IsReason : CompileError → Type 0
IsReason e = IsTrue (nat_eq e.number 64 || (nat_eq e.number 67 || nat_eq e.number 90))
