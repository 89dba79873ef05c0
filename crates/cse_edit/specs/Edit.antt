-- What an edit answers, by the texts that it begins with and the bytes that it read.
use Rattle.std.specs.Prelude.{◌≡◌, ◌≢◌, ◌≤◌, ◌<◌, ◌^◌, ◌⊎◌, ℕ, Bool, true, false, List, [], ◌++◌, length, Option, None, Some, Ok, Err}
use Rattle.cse_value.specs.Device.{Consumes, Appends, IsAtEnd, FailsOnce, IsUnfailing, Given}
use Rattle.cse_sections.specs.Sections.{sections_of}
use Rattle.cse_dict.specs.Dictionary.{DictionaryText, dictionary_of}
use Rattle.cse_dict.specs.Reading.{text_faults, IsAnswer}
use Rattle.cse_case.specs.Line.{FileLine}
use Rattle.cse_case.specs.Runs.{given_runs, fault_in}
use Rattle.cse_image_parts.specs.Image.{Image}
use Rattle.cse_logic_tree.specs.Typed.{Tree}
use Rattle.cse_meaning.specs.Build.{AreSound, IsFault}
use Rattle.cse_meaning.specs.Fault.{IsReason}
use Rattle.cse_decks.specs.Loading.{loaded}
use Rattle.cse_decks.specs.declared.error.DeckError.{DeckError}
use Rattle.cse_decks.specs.Store.{Kept, first_kept}
use Rattle.cse_batch_parts.specs.declared.totals.Totals.{Totals}
use Rattle.cse_batch_parts.specs.declared.totals.RunFault.{RunFault}
use Rattle.cse_batch_parts.specs.Batch.{Batch}
use Rattle.cse_batch_parts.specs.DataFaults.{BreaksOff, IsDataFault}
use Rattle.cse_batch_parts.specs.RunClauses.{Contents, Failures, GivesFronts, GivesTexts, HasFailure}
use Rattle.cse_edit.specs.declared.fault.EditFault.{EditFault}
use Rattle.cse_edit.specs.declared.fault.EditFault.TheVariants as faults
use Rattle.cse_edit.specs.Logic.{after_runs_meant, batch_meant, begun_meant, first_meant, loaded_meant}

-- ---- the texts that it begins with

-- the text is a dictionary's, and this one's
pub record IsRead (text : List ℕ) (d : DictionaryText) : Type 0 where
  pub sound : text_faults text ≡ []
  pub is : d ≡ dictionary_of (sections_of text)

-- what it starts with: what the declarations say, or what a deck text says
abbrev pub Starts : Tree → Option (List ℕ) → Kept → Type 0
Starts t None store = store ≡ first_meant t
Starts t (Some text) store = loaded_meant t text ≡ Ok store

-- the logic with its messages and its order is sound, and so is the deck text
pub record Begins (d : DictionaryText) (logic messages order : List ℕ) (decks : Option (List ℕ)) : Type 0 where
  pub texts : AreSound d logic messages order
  pub store : Kept
  pub starts : Starts texts.tree decks store

-- ---- devices

-- what the input gave and what the outputs took, before and after
pub record Devices : Type 0 where
  pub before : Given
  pub after : Given
  pub old : Contents
  pub new : Contents

abbrev pub devices : Given → Given → Contents → Contents → Devices
devices before after old new = record { before = before; after = after; old = old; new = new }

-- nothing was read or written
pub record AreUntouched (on : Devices) : Type 0 where
  pub input : on.before ≡ on.after
  pub outputs : on.old ≡ on.new

-- ---- whole edits

-- The input was read to its end, no read failed, and no line of it is faulty. The outputs were given the texts of this batch over what was
-- read and nothing else, and the totals are its totals.
pub record RunsBatch (d : DictionaryText) (batch : List ℕ → Bool → Batch) (on : Devices) (totals : Totals) : Type 0 where
  pub bytes : List ℕ
  pub reads : Consumes on.before on.after bytes
  pub unfailing : IsUnfailing on.before on.after
  pub end : IsAtEnd on.after
  pub sound : fault_in d true true bytes ≡ None
  pub texts : GivesTexts on.old on.new (batch bytes true)
  pub totals_are : totals ≡ (batch bytes true).totals

-- the texts are sound, and the batch that their logic means was written
pub record Edits (d : DictionaryText) (logic messages order : List ℕ) (decks : Option (List ℕ)) (on : Devices) (totals : Totals) : Type 0 where
  pub begins : Begins d logic messages order decks
  pub runs : RunsBatch d (batch_meant d begins.texts.tree begins.texts.named begins.store) on totals

-- From the text of a dictionary, and from those of logic, to the texts of the edit.
pub record EditsWhole (text logic messages order : List ℕ) (decks : Option (List ℕ)) (on : Devices) (totals : Totals) : Type 0 where
  pub dictionary : DictionaryText
  pub read : IsRead text dictionary
  pub edits : Edits dictionary logic messages order decks on totals

-- ---- edits that stop

-- the lines of whole runs were written, as what their events mean leaves them
pub record WritesRunsBy (d : DictionaryText) (written : List (List FileLine) → List ℕ) (bytes : List ℕ) (ended : Bool) (old new : List ℕ) : Type 0 where
  pub runs : List (List FileLine)
  pub more : List (List FileLine)
  pub given_are : given_runs d true ended bytes ≡ runs ++ more
  pub appends : Appends old new (written runs)

-- Each output was given a front of its text in this batch over what was read. The mark says whether the end of the input was read. A fault
-- below 70 is that of the first faulty line. 70 comes only where what was read breaks off without a faulty line, and one read failed or 2^40
-- bytes were read; beside another fault no read failed. Up to 70 the written lines and the listing are whole, each unless its output has
-- failed; and after any fault whole runs were written, unless that output has failed. 71 comes only where an output has failed, and the only
-- other fault is 90. From 70 on there is no line.
pub record StopsBatch (d : DictionaryText) (batch : List ℕ → Bool → Batch) (written : List (List FileLine) → List ℕ) (on : Devices) (failed : Failures) (fault : RunFault) : Type 0 where
  pub bytes : List ℕ
  pub ended : Bool
  pub reads : Consumes on.before on.after bytes
  pub end : ended ≡ true → IsAtEnd on.after
  pub fronts : GivesFronts on.old on.new (batch bytes ended)
  pub faulty : fault.number < 70 → IsDataFault d ended bytes fault
  pub needed : fault.number ≡ 70 → BreaksOff d ended bytes
  pub out_whole : fault.number < 71 → failed.out ≡ false → Appends on.old.out on.new.out (batch bytes ended).out
  pub listing_whole : fault.number < 71 → failed.listing ≡ false → Appends on.old.listing on.new.listing (batch bytes ended).listing
  pub out_runs : failed.out ≡ false → WritesRunsBy d written bytes ended on.old.out on.new.out
  pub unfailing : fault.number ≢ 70 → IsUnfailing on.before on.after
  pub reading : fault.number ≡ 70 → FailsOnce on.before on.after ⊎ (2 ^ 40 ≤ length bytes)
  pub writing : fault.number ≡ 71 → HasFailure failed
  pub other : 70 ≤ fault.number → (fault.number ≡ 70) ⊎ ((fault.number ≡ 71) ⊎ (fault.number ≡ 90))
  pub no_line : 70 ≤ fault.number → fault.line ≡ 0

-- what the lines of runs are after their events
abbrev pub written_meant : DictionaryText → Tree → List ℕ → Kept → List (List FileLine) → List ℕ
written_meant d t named store runs = (after_runs_meant d t named (begun_meant d t store) runs).out

-- the texts are sound, and the batch that their logic means stopped
pub record StopsEdit (d : DictionaryText) (logic messages order : List ℕ) (decks : Option (List ℕ)) (on : Devices) (failed : Failures) (fault : RunFault) : Type 0 where
  pub begins : Begins d logic messages order decks
  pub stops : StopsBatch d (batch_meant d begins.texts.tree begins.texts.named begins.store)
      (written_meant d begins.texts.tree begins.texts.named begins.store) on failed fault

-- the first faulty line of the deck text; there is one only where there is a text
abbrev pub IsDeckFault : Tree → Option (List ℕ) → DeckError → Type 0
IsDeckFault t None e = ⊥
IsDeckFault t (Some text) e = loaded_meant t text ≡ Err e

-- Why it stopped. Before the first byte of the data is read: a fault of the texts beside it, each told only where those before it are sound,
-- or want of memory. Then: the fault of the batch.
abbrev pub Stops : DictionaryText → List ℕ → List ℕ → List ℕ → Option (List ℕ) → Devices → Failures → EditFault → Type 0
Stops d logic messages order decks on failed (faults.Dictionary e) = ⊥
Stops d logic messages order decks on failed (faults.Logic e) =
    AreUntouched on × IsFault d logic messages order e × (AreSound d logic messages order → IsReason e)
Stops d logic messages order decks on failed (faults.Decks e) =
    AreUntouched on × ((texts : AreSound d logic messages order) × IsDeckFault texts.tree decks e)
Stops d logic messages order decks on failed (faults.Run e) = StopsEdit d logic messages order decks on failed e
Stops d logic messages order decks on failed faults.Memory = AreUntouched on

pub record StopsBehind (text logic messages order : List ℕ) (decks : Option (List ℕ)) (on : Devices) (failed : Failures) (fault : EditFault) : Type 0 where
  pub dictionary : DictionaryText
  pub read : IsRead text dictionary
  pub stops : Stops dictionary logic messages order decks on failed fault

abbrev pub EditStops : List ℕ → List ℕ → List ℕ → List ℕ → Option (List ℕ) → Devices → Failures → EditFault → Type 0
EditStops text logic messages order decks on failed (faults.Dictionary e) = AreUntouched on × IsAnswer text e
EditStops text logic messages order decks on failed fault = StopsBehind text logic messages order decks on failed fault

-- ---- the store of a program

-- the store that a program starts with, by the deck text that is there
abbrev pub IsStartOf : Image → Option (List ℕ) → Kept → Type 0
IsStartOf x None store = store ≡ first_kept x
IsStartOf x (Some text) store = loaded x text ≡ Ok store

abbrev pub IsNoStartOf : Image → Option (List ℕ) → EditFault → Type 0
IsNoStartOf x (Some text) (faults.Decks e) = loaded x text ≡ Err e
IsNoStartOf x decks faults.Memory = Unit {0}
IsNoStartOf x decks fault = ⊥
