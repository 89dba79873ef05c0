-- What was written, where the device may have failed.
use Rattle.std.proofs.Common.{◌≡◌, ℕ, Bool, true, false, List, [], Result, Ok, Err, append-nil, sym, ◌∙◌}
use Rattle.cse_value.specs.Device.{Appends}
use Rattle.std.proofs.lemmas.Bool.{false≢true}
use Rattle.cse_value.specs.Writing.{AppendsFront, FailsAtErr, WritesAll}

pub front_written : {T E : Type 0} (r : Result T E) (a b : List ℕ) (bytes : List ℕ) → WritesAll r a b bytes → AppendsFront a b bytes
front_written (Ok x) a b bytes w = record { written = bytes; rest = []; is = sym (append-nil bytes); appends = w }
front_written (Err e) a b bytes w = w

-- all of it, where the device has not failed
pub whole_written : {T E : Type 0} (r : Result T E) (a b : List ℕ) (bytes : List ℕ) (before after : Bool)
    → WritesAll r a b bytes → FailsAtErr r before after → after ≡ false → Appends a b bytes
whole_written (Ok x) a b bytes before after w failed sound = w
whole_written (Err e) a b bytes before after w failed sound = absurd (false≢true (sym sound ∙ failed))
