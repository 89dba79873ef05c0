-- What `compile` comes to: what its files gave and took, and what it printed.
use Rattle.std.specs.Prelude.{◌⊎◌, ℕ, List, Result}
use Rattle.cse_command_parts.specs.declared.plan.CompilePaths.{CompilePaths}
use Rattle.cse_command_parts.specs.declared.outcome.Stop.{Stop}
use Rattle.cse_command_parts.specs.Printed.{compiled_line}
use Rattle.cse_command_parts.specs.Prints.{Halts, Prints}
use Rattle.cse_command_parts.specs.Told.{Told}
use Rattle.cse_command_images.specs.declared.compiled.CompiledFiles.{CompiledFiles}
use Rattle.cse_command_images.specs.Compiled.{AreCompilePaths, CompilesFiles}
use Rattle.cse_command_images.specs.CompileHalts.{StopsCompile}

-- Files were opened by the paths of `compile`, gave and took what makes an image, and its length was printed.
pub record DidCompile {F : Type 0} (t : Told F) (p : CompilePaths) (result : Result (Unit {0}) Stop) (old new : List ℕ) : Type 0 where
  pub made : CompiledFiles F
  pub paths : AreCompilePaths p made
  pub compiles : CompilesFiles t made
  pub prints : Prints (compiled_line made.len) result old new

abbrev pub DoesCompile : {F : Type 0} → Told F → CompilePaths → Result (Unit {0}) Stop → List ℕ → List ℕ → Type 0
DoesCompile t p result old new = Halts (StopsCompile t.given p) result old new ⊎ DidCompile t p result old new
