-- What a command prints; and what `verify` comes to: what its files gave, and what it printed.
use Rattle.std.specs.Prelude.{◌≡◌, ℕ, List, Result, Ok, Err}
use Rattle.cse_value.specs.Device.{Appends}
use Rattle.cse_value.specs.Writing.{AppendsFront}
use Rattle.cse_command_parts.specs.declared.judged.VerifiedFiles.{VerifiedFiles}
use Rattle.cse_command_parts.specs.declared.outcome.Stop.{Stop}
use Rattle.cse_command_parts.specs.declared.outcome.Stop.TheVariants.{Refused}
use Rattle.cse_command_parts.specs.Ending.{plain_fault}
use Rattle.cse_command_parts.specs.Halts.{StopsVerify}
use Rattle.cse_command_parts.specs.Judged.{VerifiesFiles}
use Rattle.cse_command_parts.specs.Told.{Told}
use Rattle.cse_command_parts.specs.Vetted.{told}

-- a device that failed
abbrev pub write_failed : Stop
write_failed = Refused (plain_fault 71)

-- a text was printed, or a front of it where the device failed
abbrev pub Prints : List ℕ → Result (Unit {0}) Stop → List ℕ → List ℕ → Type 0
Prints text (Ok done) old new = Appends old new text
Prints text (Err stop) old new = (stop ≡ write_failed) × AppendsFront old new text

-- it stopped by a reason, and nothing was printed
abbrev pub Halts : (Stop → Type 0) → Result (Unit {0}) Stop → List ℕ → List ℕ → Type 0
Halts Why (Ok done) old new = ⊥
Halts Why (Err stop) old new = Why stop × (new ≡ old)

-- a command that has ended: its files are closed
abbrev pub ended : {T : Type 0} → Result T Stop → Result (Unit {0}) Stop
ended (Ok files) = Ok tt
ended (Err stop) = Err stop

-- what a writing call answered
abbrev pub printing : {E : Type 0} → Result (Unit {0}) E → Result (Unit {0}) Stop
printing (Ok done) = Ok tt
printing (Err failed) = Err write_failed

-- `verify` prints what is known of the program
pub record PrintsVerdict {F : Type 0} (t : Told F) (dict image old new : List ℕ) (v : VerifiedFiles F) : Type 0 where
  pub verifies : VerifiesFiles t dict image v
  pub prints : Appends old new (told verifies.passes)

abbrev pub DoesVerify : {F : Type 0} → Told F → List ℕ → List ℕ → Result (Unit {0}) Stop → List ℕ → List ℕ → Type 0
DoesVerify {F} t dict image (Ok done) old new = (v : VerifiedFiles F) × PrintsVerdict t dict image old new v
DoesVerify {F} t dict image (Err stop) old new = StopsVerify t.given dict image stop
