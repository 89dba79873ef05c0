-- What the reader answers.
use Rattle.std.specs.Prelude.{◌≡◌, ◌⊎◌, ℕ, List, [], ◌∷◌, if◌then◌else◌, Contains, All, false, None, Some}
use Rattle.std.specs.Str.{is_utf8}
use Rattle.cse_sections.specs.Sections.{sections_of}
use Rattle.cse_dict.specs.Faults.{faults_of, is_before, note_all}
use Rattle.cse_dict.specs.declared.fault.DictError.{DictError}

-- the faults of a text; 10: bytes that are no UTF-8, and then nothing else counts
unfoldable pub text_faults : List ℕ → List DictError
text_faults bytes = if is_utf8 bytes then faults_of (sections_of bytes) else record { number = 10; line = 0 } ∷ []

-- a fault that holds
abbrev pub IsFault : List ℕ → DictError → Type 0
IsFault bytes f = Contains (text_faults bytes) f

-- none that holds is before it
abbrev pub IsLeast : List ℕ → DictError → Type 0
IsLeast bytes f = All (λ g. is_before g f ≡ false) (text_faults bytes)

-- want of memory
abbrev pub want_of_memory : DictError
want_of_memory = record { number = 90; line = 0 }

-- what an error is, in the order in which the code notes faults
abbrev pub IsNoted : List DictError → DictError → Type 0
IsNoted faults error = (error ≡ want_of_memory) ⊎ (note_all None faults ≡ Some error)

-- what an error says: want of memory, or the least of the faults that hold
abbrev pub IsAnswer : List ℕ → DictError → Type 0
IsAnswer bytes error = (error ≡ want_of_memory) ⊎ (IsFault bytes error × IsLeast bytes error)
