use Rattle.std.proofs.Common.{◌≡◌, ℕ, Result, Ok, Err, refl}
use Rattle.cse_value.proofs.ReadLaws.{Keeps-refl}
use Rattle.cse_case.specs.declared.buffer.ReadFault.{ReadFault}
use Rattle.cse_case.specs.declared.buffer.ReadFault.TheVariants.{Device, Memory}
use Rattle.cse_case.proofs.buffer.read_chunk.Goals as goal

-- an error is one of the two, and what was read is none
not_device : (r : Result ℕ ReadFault) → r ≡ Err Memory → r ≡ Err Device → ⊥
not_device r memory device = cc

not_memory : (r : Result ℕ ReadFault) → r ≡ Err Device → r ≡ Err Memory → ⊥
not_memory r device memory = cc

no_error : (r : Result ℕ ReadFault) (n : ℕ) (e : ReadFault) → r ≡ Ok n → r ≡ Err e → ⊥
no_error r n e ok err = cc

pub returns-in_default-clause-kept : goal.returns-in_default-clause-kept
returns-in_default-clause-kept g c = Keeps-refl _

pub returns-in_default-clause-failed : goal.returns-in_default-clause-failed
returns-in_default-clause-failed g c = λ e. absurd (not_device _ refl e)

pub returns-in_default-clause-sound : goal.returns-in_default-clause-sound
returns-in_default-clause-sound g c = λ _. refl

pub returns-in-Ok-read-clause-works : goal.returns-in-Ok-read-clause-works
returns-in-Ok-read-clause-works g c = c.in-Ok-read.ensures.counted

pub returns-in-Ok-read-clause-failed : goal.returns-in-Ok-read-clause-failed
returns-in-Ok-read-clause-failed g c = λ e. absurd (no_error _ _ _ refl e)

pub returns-in-Ok-read-clause-sound : goal.returns-in-Ok-read-clause-sound
returns-in-Ok-read-clause-sound g c = λ e. absurd (no_error _ _ _ refl e)

pub returns-in-Err-clause-kept : goal.returns-in-Err-clause-kept
returns-in-Err-clause-kept g c = c.in-Err.ensures.bytes

pub returns-in-Err-clause-failed : goal.returns-in-Err-clause-failed
returns-in-Err-clause-failed g c = λ _. c.in-Err.ensures.counted

pub returns-in-Err-clause-sound : goal.returns-in-Err-clause-sound
returns-in-Err-clause-sound g c = λ e. absurd (not_memory _ refl e)
