-- What the files of a command tell, and the store that a program starts with.
use Rattle.std.specs.Prelude.{◌≡◌, ℕ, Bool, List, Option, None, Some, option_map}
use Rattle.cse_value.specs.Device.{Given}
use Rattle.cse_value.specs.declared.device.Reads.{Reads}
use Rattle.cse_value.specs.declared.device.Writes.{Writes}
use Rattle.cse_files.specs.declared.whole.WholeFile.{WholeFile}
use Rattle.cse_image_parts.specs.Image.{Image}
use Rattle.cse_decks.specs.DeckText.{IsDeckText}
use Rattle.cse_decks.specs.Store.{Kept, first_kept}

-- How the devices of files tell what they gave, what they took, and whether they have failed.
pub record Told (F : Type 0) : Type 0 where
  pub given : Reads F → Given
  pub taken : Writes F → List ℕ
  pub failed : Writes F → Bool

abbrev pub told_by : {F : Type 0} → (Reads F → Given) → (Writes F → List ℕ) → (Writes F → Bool) → Told F
told_by given taken failed = record { given = given; taken = taken; failed = failed }

-- what the deck file gave, where it is named and there
abbrev pub decks_given : {F : Type 0} → Told F → Option (WholeFile F) → Option (List ℕ)
decks_given t decks = option_map (λ f. (t.given f.input.device).bytes) decks

-- the store that a program starts with
abbrev pub IsStart : Image → Option (List ℕ) → Kept → Type 0
IsStart x None store = store ≡ first_kept x
IsStart x (Some text) store = IsDeckText x text store
