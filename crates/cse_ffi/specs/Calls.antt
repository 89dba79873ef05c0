-- What a call comes to, by the texts that it is given: an image, its bounds, a run; or the fault, with its number and its place.
use Rattle.std.specs.Prelude.{◌≡◌, ◌==◌, ◌⊎◌, ℕ, Bool, List, [], length, false, Result, Ok, Err, if◌then◌else◌}
use Rattle.cse_value.specs.Device.{Consumes, Given}
use Rattle.cse_value.specs.Sound.{are_given}
use Rattle.cse_value.specs.Slice.{ReadOf}
use Rattle.cse_image_parts.specs.Image.{Image}
use Rattle.cse_sections.specs.Sections.{sections_of}
use Rattle.cse_dict.specs.Dictionary.{DictionaryText, dictionary_of, shape_of}
use Rattle.cse_dict.specs.Reading.{IsAnswer, text_faults}
use Rattle.cse_dict.specs.declared.fault.DictError.{DictError}
use Rattle.cse_verify.specs.EventBound.{case_bound, run_bound}
use Rattle.cse_verify.specs.Verified.{VerifiedProgram}
use Rattle.cse_meaning.specs.declared.error.BuildFault.{BuildFault}
use Rattle.cse_meaning.specs.Build.{IsBuilt, IsFault}
use Rattle.cse_meaning.specs.BuiltMeant.{MeansLogic}
use Rattle.cse_decks.specs.declared.error.DeckError.{DeckError}
use Rattle.cse_decks.specs.Loading.{loaded}
use Rattle.cse_decks.specs.Store.{Kept, first_kept}
use Rattle.cse_verify.specs.declared.image.CheckFault.{CheckFault}
use Rattle.cse_batch_parts.specs.declared.totals.Totals.{Totals}
use Rattle.cse_batch_parts.specs.declared.totals.RunFault.{RunFault}
use Rattle.cse_verify.specs.Checked.{IsAccepted, IsNoFault, IsRefused}
use Rattle.cse_batch_parts.specs.RunClauses.{Contents, Failures, RunStops, RunsWhole, contents}
use Rattle.cse_ffi.specs.declared.fault.CsbFault.{CsbFault}
use Rattle.cse_ffi.specs.Fault.{fault_at, of_check}

-- ---- the dictionary

-- the text is a dictionary's, and this one's
pub record IsRead (text : List ℕ) (d : DictionaryText) : Type 0 where
  pub sound : text_faults text ≡ []
  pub is : d ≡ dictionary_of (sections_of text)

-- the least fault of its text, or want of memory
pub record IsDictionaryFault (text : List ℕ) (f : CsbFault) : Type 0 where
  pub error : DictError
  pub first : IsAnswer text error
  pub tells : f ≡ fault_at error.number error.line 0

-- ---- the image of logic

-- the bytes are the image of these texts, and what they stand for does what the logic means
pub record IsImageOf (text logic messages order bytes : List ℕ) : Type 0 where
  pub dictionary : DictionaryText
  pub read : IsRead text dictionary
  pub built : IsBuilt dictionary logic messages order bytes
  pub means : MeansLogic dictionary logic messages order bytes

-- the first fault of the texts behind the dictionary
pub record IsBuildFault (text logic messages order : List ℕ) (f : CsbFault) : Type 0 where
  pub dictionary : DictionaryText
  pub read : IsRead text dictionary
  pub error : BuildFault
  pub first : IsFault dictionary logic messages order error
  pub tells : f ≡ fault_at error.number error.line error.column

abbrev pub IsNoImage : List ℕ → List ℕ → List ℕ → List ℕ → CsbFault → Type 0
IsNoImage text logic messages order f = IsDictionaryFault text f ⊎ IsBuildFault text logic messages order f

-- ---- images that may run

-- the bytes are the spelling of a program that may run with the dictionary, and these are its bounds
pub record MayRun (text image : List ℕ) (case_steps run_steps : ℕ) : Type 0 where
  pub dictionary : DictionaryText
  pub read : IsRead text dictionary
  pub program : Image
  pub accepted : IsAccepted (shape_of dictionary) image program
  pub case_is : case_steps ≡ case_bound program
  pub run_is : run_steps ≡ run_bound program

-- the first reason against the image; one that is accepted has none but want of memory
pub record IsCheckFault (text image : List ℕ) (f : CsbFault) : Type 0 where
  pub dictionary : DictionaryText
  pub read : IsRead text dictionary
  pub error : CheckFault
  pub first : IsRefused (shape_of dictionary) image error
  pub only : IsNoFault (shape_of dictionary) image error
  pub tells : f ≡ of_check error

abbrev pub IsImageFault : List ℕ → List ℕ → CsbFault → Type 0
IsImageFault text image f = IsDictionaryFault text f ⊎ IsCheckFault text image f

-- ---- runs

-- the store of a program at the start: a new one where the deck text is empty, or what the text says, or the text's first faulty line
abbrev pub begun : Image → List ℕ → Result Kept DeckError
begun x decks = if length decks == 0 then Ok (first_kept x) else loaded x decks

-- a whole run of a program, over what its devices had and have
pub record RunsFrom (v : VerifiedProgram) (decks : List ℕ) (before after : Given) (old new : Contents) (totals : Totals) : Type 0 where
  pub store : Kept
  pub starts : begun v.image decks ≡ Ok store
  pub runs : RunsWhole v store before after old new totals

-- nothing is read or written
pub record AreUntouched (before after : Given) (old new : Contents) : Type 0 where
  pub input : before ≡ after
  pub outputs : old ≡ new

-- there is no store to begin with
abbrev pub HasNoStart : Image → List ℕ → CsbFault → Type 0
HasNoStart x decks f = (f ≡ fault_at 90 0 0) ⊎ ((e : DeckError) × (begun x decks ≡ Err e) × (f ≡ fault_at e.number e.line 0))

-- the run stops
pub record StopsBehind (v : VerifiedProgram) (decks : List ℕ) (before after : Given) (old new : Contents) (failed : Failures) (f : CsbFault) : Type 0 where
  pub store : Kept
  pub starts : begun v.image decks ≡ Ok store
  pub error : RunFault
  pub stops : RunStops v store before after old new failed error
  pub tells : f ≡ fault_at error.number error.line 0

abbrev pub StopsFrom : VerifiedProgram → List ℕ → Given → Given → Contents → Contents → Failures → CsbFault → Type 0
StopsFrom v decks before after old new failed f =
    (AreUntouched before after old new × HasNoStart v.image decks f) ⊎ StopsBehind v decks before after old new failed f

-- the program is that of the image, and may run with the dictionary
pub record IsOf (text image : List ℕ) (v : VerifiedProgram) : Type 0 where
  pub read : IsRead text v.dictionary
  pub accepted : IsAccepted (shape_of v.dictionary) image v.image

-- the image may run, and a run of it is whole
pub record RunsImage (text image decks : List ℕ) (before after : Given) (old new : Contents) (totals : Totals) : Type 0 where
  pub program : VerifiedProgram
  pub is : IsOf text image program
  pub runs : RunsFrom program decks before after old new totals

-- the image may run, and a run of it stops
pub record StopsProgram (text image decks : List ℕ) (before after : Given) (old new : Contents) (failed : Failures) (f : CsbFault) : Type 0 where
  pub program : VerifiedProgram
  pub is : IsOf text image program
  pub stops : StopsFrom program decks before after old new failed f

-- the image may not run, and nothing is read or written; or it stops
abbrev pub StopsImage : List ℕ → List ℕ → List ℕ → Given → Given → Contents → Contents → Failures → CsbFault → Type 0
StopsImage text image decks before after old new failed f =
    (AreUntouched before after old new × IsImageFault text image f) ⊎ StopsProgram text image decks before after old new failed f

-- ---- runs over memory

-- nothing read yet
abbrev pub unread : Given
unread = are_given [] false 0

-- nothing written yet
abbrev pub empty : Contents
empty = contents [] [] [] []

-- a whole run over the data, all of which was read, to these texts
pub record RunsData (text image decks data_ : List ℕ) (totals : Totals) (texts : Contents) : Type 0 where
  pub before : Given
  pub after : Given
  pub runs : RunsImage text image decks before after empty texts totals
  pub all : runs.runs.runs.bytes ≡ data_

-- an output in memory fails by want of memory alone
abbrev pub in_memory : CsbFault → CsbFault
in_memory f = if f.number == 71 then fault_at 90 0 0 else f

-- the same run stops, after it read a front of the data
pub record StopsData (text image decks data_ : List ℕ) (f : CsbFault) : Type 0 where
  pub before : Given
  pub after : Given
  pub new : Contents
  pub failed : Failures
  pub fault : CsbFault
  pub stops : StopsImage text image decks before after empty new failed fault
  pub front : (read : List ℕ) → Consumes before after read → ReadOf data_ read after
  pub tells : f ≡ in_memory fault
