-- What `verify` answers of the text of a dictionary and the bytes of an image.
use Rattle.std.specs.Prelude.{◌≡◌, ℕ, Bool, true, false, ◌||◌, List, [], Result, Ok, Err}
use Rattle.cse_value.specs.Device.{Appends}
use Rattle.cse_value.specs.Writing.{AppendsFront}
use Rattle.cse_value.specs.Shape.{ShapeLists}
use Rattle.cse_image_parts.specs.Image.{Image}
use Rattle.cse_sections.specs.Sections.{sections_of}
use Rattle.cse_dict.specs.Dictionary.{DictionaryText, dictionary_of, shape_of}
use Rattle.cse_dict.specs.Reading.{text_faults, IsAnswer}
use Rattle.cse_verify.specs.declared.depth.Depth.{Depth}
use Rattle.cse_verify.specs.Depths.{IsDepthOf}
use Rattle.cse_verify.specs.declared.image.CheckFault.{CheckFault}
use Rattle.cse_verify.specs.Checked.{IsAccepted, IsRefused, IsNoFault}
use Rattle.cse_command_parts.specs.declared.verify_image.VerifyFault.{VerifyFault}
use Rattle.cse_command_parts.specs.declared.verify_image.VerifyFault.TheVariants as faults
use Rattle.cse_command_parts.specs.Verdict.{verdict}

-- the dictionary of a text, and its shape
abbrev pub dictionary_in : List ℕ → DictionaryText
dictionary_in text = dictionary_of (sections_of text)

abbrev pub shape_in : List ℕ → ShapeLists
shape_in text = shape_of (dictionary_in text)

-- The text is a dictionary's, and this one's.
pub record IsReadAs (text : List ℕ) (d : DictionaryText) : Type 0 where
  pub sound : text_faults text ≡ []
  pub is : d ≡ dictionary_in text

-- The text is a dictionary's, and the bytes are the spelling of a program that may run with it.
pub record Passes (text bytes : List ℕ) : Type 0 where
  pub sound : text_faults text ≡ []
  pub program : Image
  pub accepted : IsAccepted (shape_in text) bytes program
  pub depth : Depth
  pub keeps : IsDepthOf (shape_in text) program depth

-- what is printed of it
abbrev pub told : {text bytes : List ℕ} → Passes text bytes → List ℕ
told {text} {bytes} p = verdict p.program p.depth

-- The text is a dictionary's, and this is the first reason against the image.
pub record IsNoPass (text bytes : List ℕ) (f : CheckFault) : Type 0 where
  pub sound : text_faults text ≡ []
  pub first : IsRefused (shape_in text) bytes f
  pub only : IsNoFault (shape_in text) bytes f

-- Why nothing was printed: the dictionary's fault, and else that of the image.
abbrev pub FailsBy : List ℕ → List ℕ → VerifyFault → Type 0
FailsBy text bytes (faults.Dict e) = IsAnswer text e
FailsBy text bytes (faults.Check f) = IsNoPass text bytes f
FailsBy text bytes faults.Write = ⊥

-- What was printed before a fault: nothing, but that a device may fail in the text.
abbrev pub TellsBefore : List ℕ → List ℕ → VerifyFault → List ℕ → List ℕ → Type 0
TellsBefore text bytes (faults.Dict e) old new = Appends old new []
TellsBefore text bytes (faults.Check f) old new = Appends old new []
TellsBefore text bytes faults.Write old new = (p : Passes text bytes) × AppendsFront old new (told p)

abbrev pub is_failed_write : VerifyFault → Bool
is_failed_write (faults.Dict e) = false
is_failed_write (faults.Check f) = false
is_failed_write faults.Write = true

-- Only a write that fails makes a device one that has failed.
abbrev pub FailsOnlyByWrite : {T : Type 0} → Result T VerifyFault → Bool → Bool → Type 0
FailsOnlyByWrite (Ok x) old new = new ≡ old
FailsOnlyByWrite (Err f) old new = new ≡ (is_failed_write f || old)
