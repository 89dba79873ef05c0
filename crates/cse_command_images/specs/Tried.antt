-- What `try` answers of the bytes of an image.
use Rattle.std.specs.Prelude.{◌≡◌, ℕ, Bool, true, false, ◌||◌, List, [], None, Result, Ok, Err, codes}
use Rattle.cse_value.specs.Device.{Appends}
use Rattle.cse_value.specs.Writing.{AppendsFront}
use Rattle.cse_image_parts.specs.declared.entries.EventCode.TheVariants.{ApplicationPreproc}
use Rattle.cse_image_parts.specs.Image.{Image}
use Rattle.cse_verify.specs.CaseEvents.{Moment, moment}
use Rattle.cse_verify.specs.Verified.{VerifiedProgram}
use Rattle.cse_decks.specs.Store.{Kept, first_kept}
use Rattle.cse_steps.specs.State.{Told}
use Rattle.cse_steps.specs.Run.{Ends}
use Rattle.cse_verify.specs.declared.image.CheckFault.TheVariants as checks
use Rattle.cse_verify.specs.Checked.{IsAccepted}
use Rattle.cse_command_images.specs.declared.try_image.TryFault.{TryFault}
use Rattle.cse_command_images.specs.declared.try_image.TryFault.TheVariants as faults
use Rattle.cse_command_parts.specs.Printed.{listed, printed}
use Rattle.cse_command_parts.specs.Vetted.{dictionary_in, shape_in, IsNoPass}

-- ---- the run of the application's preproc

-- the text of the empty dictionary: a level without records, items and value sets
abbrev pub empty_text : List ℕ
empty_text = codes "[Dictionary]\nName=T\n[Level]\nName=L\n"

-- a program with that dictionary
abbrev pub tried : Image → VerifiedProgram
tried x = record { dictionary = dictionary_in empty_text; image = x }

abbrev pub preproc : Moment
preproc = moment ApplicationPreproc 0 0

-- From a new store the application's preproc runs to its end in exactly n steps, at most as many as its bound, and these texts are listed. Without one
-- no step is taken.
pub record Goes (v : VerifiedProgram) (n : ℕ) (texts : List (List ℕ)) : Type 0 where
  pub store : Kept
  pub told : Told
  pub ends : Ends v preproc None (first_kept v.image) n None store told
  pub texts_are : texts ≡ listed v.image.lists.messages told.given

-- ---- what `try` answers

-- The bytes are the spelling of a program that may run with the empty dictionary, and its preproc goes so.
pub record Runs (bytes : List ℕ) (n : ℕ) : Type 0 where
  pub program : Image
  pub accepted : IsAccepted (shape_in empty_text) bytes program
  pub texts : List (List ℕ)
  pub goes : Goes (tried program) n texts

-- what such a run prints
abbrev pub text_of : {bytes : List ℕ} {n : ℕ} → Runs bytes n → List ℕ
text_of {bytes} {n} r = printed r.texts n

-- Why there is no run: the first reason against the image with the empty dictionary.
abbrev pub IsRefused : List ℕ → TryFault → Type 0
IsRefused bytes (faults.Image e) = IsNoPass empty_text bytes (checks.Image e)
IsRefused bytes (faults.Refused r) = IsNoPass empty_text bytes (checks.Refused r)
IsRefused bytes faults.Write = ⊥
IsRefused bytes faults.Memory = Unit {0}

-- What was printed before a fault: nothing, but that a device may fail in the text of a run.
abbrev pub PrintsBefore : List ℕ → TryFault → List ℕ → List ℕ → Type 0
PrintsBefore bytes (faults.Image e) old new = Appends old new []
PrintsBefore bytes (faults.Refused r) old new = Appends old new []
PrintsBefore bytes faults.Write old new = (n : ℕ) × ((r : Runs bytes n) × AppendsFront old new (text_of r))
PrintsBefore bytes faults.Memory old new = Appends old new []

abbrev pub is_write : TryFault → Bool
is_write (faults.Image e) = false
is_write (faults.Refused r) = false
is_write faults.Write = true
is_write faults.Memory = false

-- Only a write that fails makes a device one that has failed.
abbrev pub FailsByWrite : Result ℕ TryFault → Bool → Bool → Type 0
FailsByWrite (Ok n) old new = new ≡ old
FailsByWrite (Err f) old new = new ≡ (is_write f || old)
