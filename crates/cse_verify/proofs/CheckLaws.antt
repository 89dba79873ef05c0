-- What is accepted is refused by want of memory alone.
use Rattle.std.specs.Prelude.{◌==◌, if◌then◌else◌}
use Rattle.std.proofs.Common.{◌≡◌, ℕ, ◌⊎◌, inl, inr, ap, ◌∙◌, subst, Result, Ok, Err}
use Rattle.cse_value.specs.Shape.{ShapeLists}
use Rattle.cse_image_parts.specs.Image.{Image}
use Rattle.cse_image.specs.declared.error.ImageError.{ImageError}
use Rattle.cse_image.specs.Place.{Answers}
use Rattle.cse_code_typing.specs.declared.refusal.Refusal.{Refusal}
use Rattle.cse_code_typing.specs.Typed.{IsTyped, IsOutOfMemory}
use Rattle.cse_verify.specs.Bounded.{IsBounded}
use Rattle.cse_verify.specs.declared.image.CheckFault.{CheckFault}
use Rattle.cse_verify.specs.declared.image.CheckFault.TheVariants as faults
use Rattle.cse_verify.specs.Checked.{of_reading, of_verifying}

pub reading_lacks_memory : (e : ImageError) (x : Image) (f : CheckFault) → f ≡ of_reading e → Answers (λ (p : Image). p) (Err e) (Ok x) → f ≡ faults.Memory
reading_lacks_memory e x f is (inl m) = is ∙ ap of_reading m
reading_lacks_memory e x f is (inr h) = absurd cc

image_or : Image → Result Image ImageError → Image
image_or d (Ok x) = x
image_or d (Err e) = d

pub verifying_lacks_memory : (s : ShapeLists) (r : Refusal) (p x : Image) (f : CheckFault) → f ≡ of_verifying r → Answers (λ (q : Image). q) (Ok p) (Ok x) → IsTyped s x → IsBounded x
    → IsOutOfMemory r ⊎ (IsTyped s p → IsBounded p → ⊥) → f ≡ faults.Memory
unfolding image_or
verifying_lacks_memory s r p x f is same typed bounded (inl m) = is ∙ ap (λ (n : ℕ). if n == 90 then faults.Memory else faults.Refused r) m.0
verifying_lacks_memory s r p x f is same typed bounded (inr never) =
    let one : x ≡ p = ap (image_or p) same in
    absurd (never (subst (IsTyped s) one typed) (subst IsBounded one bounded))
