-- What an edit over files comes to: by which paths they were opened, what they gave, and what they took.
use Rattle.std.specs.Prelude.{◌≡◌, ℕ, Bool, List, [], Option, option_map, Result, Ok, Err}
use Rattle.cse_value.specs.Device.{Given, IsAtEnd}
use Rattle.cse_value.specs.declared.gathered.Gathered.{Gathered}
use Rattle.cse_dict.specs.Dictionary.{DictionaryText}
use Rattle.cse_batch_parts.specs.declared.totals.Totals.{Totals}
use Rattle.cse_batch_parts.specs.declared.totals.RunFault.{RunFault}
use Rattle.cse_batch_parts.specs.RunClauses.{Contents, Failures}
use Rattle.cse_edit.specs.declared.fault.EditFault.TheVariants as faults
use Rattle.cse_edit.specs.Edit.{EditsWhole, EditStops, devices}
use Rattle.cse_commands.specs.declared.edited.EditedFiles.{EditedFiles}
use Rattle.cse_command_parts.specs.declared.outcome.Stop.{Stop}
use Rattle.cse_command_parts.specs.declared.plan.EditPaths.{EditPaths}
use Rattle.cse_commands.specs.declared.ran.Ran.{Ran}
use Rattle.cse_commands.specs.declared.ran.RanFrom.{RanFrom}
use Rattle.cse_commands.specs.Ran.{AreOpenedFrom, have_failed, none_taken, took, unread}
use Rattle.cse_command_parts.specs.Told.{Told, decks_given}
use Rattle.cse_commands.specs.Telling.{told_of}
use Rattle.cse_command_parts.specs.TextsGiven.{EndsWhereNamed, text_given}

-- It tells the fault of an edit that stopped behind its texts, whose outputs took fronts. The deck text was gathered beside them.
pub record TellsEditFault (text logic messages order : List ℕ) (decks : Option (List ℕ)) (after : Given) (taken : List ℕ → Contents) (failed : Bool → Failures) (stop : Stop) : Type 0 where
  pub fault : RunFault
  pub gathered : List ℕ
  pub lacked : Bool
  pub stops : EditStops text logic messages order decks (devices unread after (none_taken []) (taken gathered)) (failed lacked) (faults.Run fault)
  pub tells : stop ≡ told_of lacked fault

-- It tells the totals and the deck text of an edit whose outputs took the texts of the batch that the logic means, and nothing else, or the fault of
-- one whose outputs took fronts of these.
abbrev pub TellsEdit : List ℕ → List ℕ → List ℕ → List ℕ → Option (List ℕ) → Given → (List ℕ → Contents) → (Bool → Failures) → Result (Totals × Gathered) Stop → Type 0
TellsEdit text logic messages order decks after taken failed (Ok told) =
    EditsWhole text logic messages order decks (devices unread after (none_taken []) (taken told.1.bytes.items)) told.0
TellsEdit text logic messages order decks after taken failed (Err stop) = TellsEditFault text logic messages order decks after taken failed stop

-- an edit by these texts
abbrev pub EditsTexts : {F : Type 0} → Told F → List ℕ → List ℕ → List ℕ → List ℕ → Option (List ℕ) → Ran F → Type 0
EditsTexts t text logic messages order decks ran = TellsEdit text logic messages order decks (t.given ran.input.device) (took t ran) (have_failed t ran) ran.told

-- with what the deck file gave
abbrev pub EditsFrom : {F : Type 0} → Told F → List ℕ → List ℕ → List ℕ → List ℕ → RanFrom F → Type 0
EditsFrom t text logic messages order ran = EditsTexts t text logic messages order (decks_given t ran.decks) ran.ran

-- The files of the texts were read to their ends, and this is an edit by what they gave.
pub record EditsFiles {F : Type 0} (t : Told F) (ran : EditedFiles F) : Type 0 where
  pub dict_end : IsAtEnd (t.given ran.dict.input.device)
  pub logic_end : IsAtEnd (t.given ran.logic.input.device)
  pub messages_end : EndsWhereNamed t ran.messages
  pub order_end : EndsWhereNamed t ran.order
  pub edits : EditsFrom t (t.given ran.dict.input.device).bytes (t.given ran.logic.input.device).bytes (text_given t ran.messages) (text_given t ran.order) ran.run

-- Each file was opened by its path.
pub record AreEditPaths {F : Type 0} (t : Told F) (paths : EditPaths) (ran : EditedFiles F) : Type 0 where
  pub dict : ran.dict.input.path.now ≡ paths.run.dict.now
  pub logic : ran.logic.input.path.now ≡ paths.logic.now
  pub messages : option_map (λ f. f.input.path.now) ran.messages ≡ option_map (λ p. p.now) paths.messages
  pub order : option_map (λ f. f.input.path.now) ran.order ≡ option_map (λ p. p.now) paths.order
  pub run : AreOpenedFrom t paths.run ran.run
