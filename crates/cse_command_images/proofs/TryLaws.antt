-- What `try` came to, whose file was closed.
use Rattle.std.proofs.Common.{◌≡◌, sym, subst, ℕ, List, Result, Ok, Err, IfOk, IfErr}
use Rattle.cse_command_parts.specs.declared.judged.TriedFile.{TriedFile}
use Rattle.cse_command_parts.specs.declared.outcome.Stop.{Stop}
use Rattle.cse_command_parts.specs.Prints.{ended}
use Rattle.cse_command_parts.specs.Told.{Told}
use Rattle.cse_command_images.specs.TryFiles.{DoesTry, PrintsTrial, StopsTry}

tries : {F : Type 0} (t : Told F) (image old new : List ℕ) (tried : Result (TriedFile F) Stop) → IfOk tried (PrintsTrial t image old new)
    → IfErr tried (StopsTry t.given image) → DoesTry t image (ended tried) old new
tries t image old new (Ok f) well stops = (f, well)
tries t image old new (Err stop) well stops = stops

pub tries_so : {F : Type 0} (t : Told F) (image old new : List ℕ) (tried : Result (TriedFile F) Stop) (result : Result (Unit {0}) Stop) → result ≡ ended tried
    → IfOk tried (PrintsTrial t image old new) → IfErr tried (StopsTry t.given image) → DoesTry t image result old new
tries_so t image old new tried result is well stops =
    subst (λ (r : Result (Unit {0}) Stop). DoesTry t image r old new) (sym is) (tries t image old new tried well stops)
