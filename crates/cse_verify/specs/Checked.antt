-- Which images may run with a dictionary, and why others may not.
use Rattle.std.specs.Prelude.{◌≡◌, ◌==◌, ℕ, List, length, Err, if◌then◌else◌}
use Rattle.cse_value.specs.Shape.{ShapeLists}
use Rattle.cse_image_parts.specs.Image.{Image}
use Rattle.cse_image.specs.declared.error.ImageError.{ImageError}
use Rattle.cse_image.specs.Spelling.{StandFor}
use Rattle.cse_image.specs.Reading.{reading}
use Rattle.cse_image.specs.Place.{placed}
use Rattle.cse_code_typing.specs.declared.refusal.Refusal.{Refusal}
use Rattle.cse_code_typing.specs.Typed.{IsTyped}
use Rattle.cse_verify.specs.Bounded.{IsBounded}
use Rattle.cse_verify.specs.FirstFault.{IsFirstFault}
use Rattle.cse_verify.specs.declared.image.CheckFault.{CheckFault}
use Rattle.cse_verify.specs.declared.image.CheckFault.TheVariants as faults

-- 90 is told by want of memory alone
abbrev pub of_reading : ImageError → CheckFault
of_reading e = if e.number == 90 then faults.Memory else faults.Image e

abbrev pub of_verifying : Refusal → CheckFault
of_verifying r = if r.number == 90 then faults.Memory else faults.Refused r

-- The bytes are the spelling of a program that is typed for a dictionary of this shape, and bounded.
pub record IsAccepted (s : ShapeLists) (bytes : List ℕ) (x : Image) : Type 0 where
  pub spells : StandFor x bytes
  pub typed : IsTyped s x
  pub bounded : IsBounded x

-- The bytes are the spelling of a program, and this is the first reason why it may not run.
pub record IsRefusedProgram (s : ShapeLists) (bytes : List ℕ) (r : Refusal) : Type 0 where
  pub program : Image
  pub spells : StandFor program bytes
  pub first : IsFirstFault s program r

-- Why an image may not run.
abbrev pub IsRefused : ShapeLists → List ℕ → CheckFault → Type 0
IsRefused s bytes (faults.Image e) = placed (length bytes) (reading bytes) ≡ Err e
IsRefused s bytes (faults.Refused r) = IsRefusedProgram s bytes r
IsRefused s bytes faults.Memory = Unit {0}

-- An image that is accepted has no fault but want of memory.
abbrev pub IsNoFault : ShapeLists → List ℕ → CheckFault → Type 0
IsNoFault s bytes f = (x : Image) → IsAccepted s bytes x → f ≡ faults.Memory
