-- A fault's number and its place in all of the bytes.
use Rattle.std.specs.Prelude.{◌≡◌, ◌-◌, ◌⊎◌, ℕ, Result, Ok, Err}
use Rattle.cse_image_parts.specs.declared.fault.Rule.{Rule}
use Rattle.cse_image_parts.specs.declared.fault.Rule.TheVariants as rules
use Rattle.cse_image_parts.specs.declared.fault.FieldFault.{FieldFault}
use Rattle.cse_image_parts.specs.declared.fault.ReadStop.{ReadStop}
use Rattle.cse_image_parts.specs.declared.fault.ReadStop.TheVariants as stops
use Rattle.cse_image.specs.declared.error.ImageError.{ImageError}

abbrev pub number_of : Rule → ℕ
number_of rules.Header = 60
number_of rules.Ended = 61
number_of rules.LeftOver = 62
number_of rules.Form = 63
number_of rules.Limit = 64

abbrev pub out_of_memory : ImageError
out_of_memory = record { number = 90; at = 0 }

-- in bytes of this length
abbrev pub error_in : ℕ → FieldFault → ImageError
error_in len f = record { number = number_of f.rule; at = len - f.left }

abbrev pub error_of : ReadStop → ℕ → ImageError
error_of stops.Memory len = out_of_memory
error_of (stops.Fault f) len = error_in len f

-- what reading gives, each fault with its place in bytes of this length
abbrev pub placed : {A : Type 0} → ℕ → Result A FieldFault → Result A ImageError
placed len (Ok x) = Ok x
placed len (Err f) = Err (error_in len f)

-- What a function returned, seen by view, is this answer, unless memory ran out.
abbrev pub Answers : {X Y : Type 0} → (X → Y) → Result X ImageError → Result Y ImageError → Type 0
Answers view (Ok x) answer = answer ≡ Ok (view x)
Answers view (Err e) answer = (e ≡ out_of_memory) ⊎ (answer ≡ Err e)
