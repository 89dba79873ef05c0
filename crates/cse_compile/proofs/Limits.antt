-- Want of memory is one of the reasons.
use Rattle.std.proofs.Common.{◌≡◌, refl, sym, subst}
use Rattle.cse_compile.specs.declared.error.CompileError.{CompileError}
use Rattle.cse_compile.specs.Fault.{IsLimit, out_of_memory}

pub memory_limit : (e : CompileError) → e ≡ out_of_memory → IsLimit e
memory_limit e h = subst IsLimit (sym h) refl
