-- What a run over files comes to: by which paths they were opened, what they gave, and what they took.
use Rattle.std.specs.Prelude.{◌≡◌, ℕ, Bool, false, List, [], Option, None, Some, option_map, Result, Ok, Err, IfOk}
use Rattle.cse_value.specs.Device.{Given, IsAtEnd}
use Rattle.cse_value.specs.Sound.{are_given}
use Rattle.cse_value.specs.declared.gathered.Gathered.{Gathered}
use Rattle.cse_files.specs.declared.replacing.Replaced.{Replaced}
use Rattle.cse_dict.specs.Dictionary.{DictionaryText, shape_of}
use Rattle.cse_verify.specs.Verified.{VerifiedProgram}
use Rattle.cse_decks.specs.Store.{Kept}
use Rattle.cse_batch_parts.specs.declared.totals.Totals.{Totals}
use Rattle.cse_verify.specs.Checked.{IsAccepted}
use Rattle.cse_batch_parts.specs.RunClauses.{Contents, Failures, RunsWhole, contents, failures}
use Rattle.cse_command_parts.specs.declared.outcome.Stop.{Stop}
use Rattle.cse_command_parts.specs.declared.plan.RunPaths.{RunPaths}
use Rattle.cse_commands.specs.declared.ran.Ran.{Ran}
use Rattle.cse_commands.specs.declared.ran.RanFrom.{RanFrom}
use Rattle.cse_commands.specs.declared.ran.RanImage.{RanImage}
use Rattle.cse_commands.specs.declared.ran.RanFiles.{RanFiles}
use Rattle.cse_command_parts.specs.Named.{IsNamed}
use Rattle.cse_commands.specs.Telling.{TellsRunFault}
use Rattle.cse_command_parts.specs.Stops.{TellsUnwritten}
use Rattle.cse_command_parts.specs.Told.{IsStart, Told, decks_given}
use Rattle.cse_command_parts.specs.Vetted.{IsReadAs}

-- ---- a run from a store

-- the outputs before anything was written
abbrev pub none_taken : List ℕ → Contents
none_taken decks = contents [] [] [] decks

-- the data file before anything was read
abbrev pub unread : Given
unread = are_given [] false 0

-- It tells the totals and the deck text of a run whose outputs took their texts and nothing else, or the fault of one whose outputs took fronts.
abbrev pub Tells : VerifiedProgram → Kept → Given → (List ℕ → Contents) → (Bool → Failures) → Result (Totals × Gathered) Stop → Type 0
Tells v store after took failed (Ok told) = RunsWhole v store unread after (none_taken []) (took told.1.bytes.items) told.0
Tells v store after took failed (Err stop) = TellsRunFault v store unread after none_taken took failed stop

-- what the outputs took, and this deck text
abbrev pub took : {F : Type 0} → Told F → Ran F → List ℕ → Contents
took t ran = contents (t.taken ran.out.device) (t.taken ran.listing.device) (t.taken ran.frequencies.device)

abbrev pub have_failed : {F : Type 0} → Told F → Ran F → Bool → Failures
have_failed t ran = failures (t.failed ran.out.device) (t.failed ran.listing.device) (t.failed ran.frequencies.device)

-- a run of the program from this store
abbrev pub RunsStore : {F : Type 0} → Told F → VerifiedProgram → Kept → Ran F → Type 0
RunsStore t v store ran = Tells v store (t.given ran.input.device) (took t ran) (have_failed t ran) ran.told

-- no output is to be synced
abbrev pub AreUnsynced : {F : Type 0} → Ran F → Type 0
AreUnsynced ran = (ran.out.same ≡ None) × ((ran.listing.same ≡ None) × (ran.frequencies.same ≡ None))

-- the data file and the outputs were opened by these paths, and no output is synced unless that is asked
pub record AreOpened {F : Type 0} (paths : RunPaths) (ran : Ran F) : Type 0 where
  pub input : ran.input.path.now ≡ paths.data.now
  pub out : ran.out.path.now ≡ paths.out.now
  pub listing : ran.listing.path.now ≡ paths.list.now
  pub frequencies : ran.frequencies.path.now ≡ paths.freq.now
  pub unsynced : paths.sync ≡ false → AreUnsynced ran

-- ---- with the deck file

-- the deck file took the deck text of a whole run, if it is named; there is none of a run that stopped, nor of outputs that were not synced
abbrev pub KeepsText : {F : Type 0} → Told F → Option (List ℕ) → Result (Totals × Gathered) Stop → Result (Option (Replaced F)) Stop → Type 0
KeepsText t path (Err stop) kept = kept ≡ Err stop
KeepsText t path (Ok told) (Err stop) = TellsUnwritten stop
KeepsText t path (Ok told) (Ok None) = path ≡ None
KeepsText t path (Ok told) (Ok (Some f)) = (path ≡ Some f.path.now) × (t.taken f.device ≡ told.1.bytes.items)

-- Each file was opened by its path, and the deck file took the deck text. A run that has neither to sync nor to keep decks doesn't fail at that.
pub record AreOpenedFrom {F : Type 0} (t : Told F) (paths : RunPaths) (ran : RanFrom F) : Type 0 where
  pub decks : IsNamed (option_map (λ p. p.now) paths.decks) (option_map (λ f. f.input.path.now) ran.decks)
  pub devices : AreOpened paths ran.ran
  pub kept : KeepsText t (option_map (λ p. p.now) paths.decks) ran.ran.told ran.kept
  pub quiet : paths.sync ≡ false → paths.decks ≡ None → IfOk ran.ran.told (λ told. ran.kept ≡ Ok None)

-- It started with what the deck file gave.
pub record RunsFrom {F : Type 0} (t : Told F) (v : VerifiedProgram) (ran : RanFrom F) : Type 0 where
  pub store : Kept
  pub starts : IsStart v.image (decks_given t ran.decks) store
  pub runs : RunsStore t v store ran.ran

-- ---- with the image, and with the dictionary

-- What the image's file gave is the spelling of a program that may run with the dictionary, and this is a run of it.
pub record RunsImage {F : Type 0} (t : Told F) (d : DictionaryText) (ran : RanImage F) : Type 0 where
  pub program : VerifiedProgram
  pub same : program.dictionary ≡ d
  pub accepted : IsAccepted (shape_of d) (t.given ran.image.input.device).bytes program.image
  pub runs : RunsFrom t program ran.run

-- What the dictionary's file gave, to its end, is the text of a dictionary, and this is a run with it.
pub record RunsFiles {F : Type 0} (t : Told F) (ran : RanFiles F) : Type 0 where
  pub dictionary : DictionaryText
  pub end : IsAtEnd (t.given ran.dict.input.device)
  pub read : IsReadAs (t.given ran.dict.input.device).bytes dictionary
  pub runs : RunsImage t dictionary ran.program

-- Each file was opened by its path.
pub record AreRunPaths {F : Type 0} (t : Told F) (paths : RunPaths) (ran : RanFiles F) : Type 0 where
  pub dict : ran.dict.input.path.now ≡ paths.dict.now
  pub image : ran.program.image.input.path.now ≡ paths.image.now
  pub run : AreOpenedFrom t paths ran.program.run
