-- What a command printed, and what it came to.
use Rattle.std.proofs.Common.{◌≡◌, refl, sym, subst, ℕ, List, Result, Ok, Err, IfOk, IfErr}
use Rattle.cse_value.specs.Writing.{WritesAll}
use Rattle.cse_command_parts.specs.declared.judged.VerifiedFiles.{VerifiedFiles}
use Rattle.cse_command_parts.specs.declared.outcome.Stop.{Stop}
use Rattle.cse_command_parts.specs.Halts.{StopsVerify}
use Rattle.cse_command_parts.specs.Prints.{DoesVerify, Prints, PrintsVerdict, ended, printing}
use Rattle.cse_command_parts.specs.Told.{Told}

-- what a writing call took
prints : {E : Type 0} (text : List ℕ) (written : Result (Unit {0}) E) (old new : List ℕ) → WritesAll written old new text → Prints text (printing written) old new
prints text (Ok done) old new took = took
prints text (Err failed) old new took = (refl, took)

pub prints_so : {E : Type 0} (text : List ℕ) (written : Result (Unit {0}) E) (result : Result (Unit {0}) Stop) (old new : List ℕ) → result ≡ printing written
    → WritesAll written old new text → Prints text result old new
prints_so text written result old new is took = subst (λ (r : Result (Unit {0}) Stop). Prints text r old new) (sym is) (prints text written old new took)

-- ---- `verify`, whose files were closed

verifies : {F : Type 0} (t : Told F) (dict image old new : List ℕ) (verified : Result (VerifiedFiles F) Stop) → IfOk verified (PrintsVerdict t dict image old new)
    → IfErr verified (StopsVerify t.given dict image) → DoesVerify t dict image (ended verified) old new
verifies t dict image old new (Ok v) well stops = (v, well)
verifies t dict image old new (Err stop) well stops = stops

pub verifies_so : {F : Type 0} (t : Told F) (dict image old new : List ℕ) (verified : Result (VerifiedFiles F) Stop) (result : Result (Unit {0}) Stop)
    → result ≡ ended verified → IfOk verified (PrintsVerdict t dict image old new) → IfErr verified (StopsVerify t.given dict image)
    → DoesVerify t dict image result old new
verifies_so t dict image old new verified result is well stops =
    subst (λ (r : Result (Unit {0}) Stop). DoesVerify t dict image r old new) (sym is) (verifies t dict image old new verified well stops)
