use Rattle.std.proofs.Common.{◌≡◌, ℕ, Result, Ok, Err, refl}
use Rattle.cse_value.proofs.ReadLaws.{Keeps-refl}
use Rattle.cse_case.specs.declared.buffer.ReadFault.{ReadFault}
use Rattle.cse_case.specs.declared.buffer.ReadFault.TheVariants.{Device, Memory}
use Rattle.cse_case.proofs.buffer.Buffer.read_from.Goals as goal

-- want of memory is no fault of a device, and what was read is no error
not_device : (r : Result ℕ ReadFault) → r ≡ Err Memory → r ≡ Err Device → ⊥
not_device r memory device = cc

no_error : (r : Result ℕ ReadFault) (n : ℕ) (e : ReadFault) → r ≡ Ok n → r ≡ Err e → ⊥
no_error r n e ok err = cc

pub returns-in_default-clause-same : goal.returns-in_default-clause-same
returns-in_default-clause-same g c = refl

pub returns-in_default-clause-kept : goal.returns-in_default-clause-kept
returns-in_default-clause-kept g c = Keeps-refl _

pub returns-in_default-clause-failed : goal.returns-in_default-clause-failed
returns-in_default-clause-failed g c = λ e. absurd (not_device _ refl e)

pub returns-in_default-clause-sound : goal.returns-in_default-clause-sound
returns-in_default-clause-sound g c = λ _. refl

pub invariant_of-self : goal.invariant_of-self
invariant_of-self g c = c.self.invariant

pub returns-in-Err-clause-same : goal.returns-in-Err-clause-same
returns-in-Err-clause-same g c = c.self.view_is

pub returns-in-Err-clause-kept : goal.returns-in-Err-clause-kept
returns-in-Err-clause-kept g c = c.in-Err.ensures.kept

pub returns-in-Err-clause-failed : goal.returns-in-Err-clause-failed
returns-in-Err-clause-failed g c = c.in-Err.ensures.failed

pub returns-in-Err-clause-sound : goal.returns-in-Err-clause-sound
returns-in-Err-clause-sound g c = c.in-Err.ensures.sound

pub returns-clause-failed : goal.returns-clause-failed
returns-clause-failed g c = λ e. absurd (no_error _ _ _ refl e)

pub returns-clause-sound : goal.returns-clause-sound
returns-clause-sound g c = λ e. absurd (no_error _ _ _ refl e)
