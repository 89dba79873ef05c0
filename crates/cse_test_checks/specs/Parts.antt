-- Worked rows of texts, names, single fields and instructions of an image.
use Rattle.std.specs.Prelude.{ℕ, Bool, true, false, ◌&&◌, List, [], ◌∷◌, codes, Some}
use Rattle.std.specs.Option.{option_map_or}
use Rattle.cse_image_parts.specs.Codes.{event_code}
use Rattle.cse_image_parts.specs.Fields.{fits_global_length, fits_local_length, fits_owner, fits_kind, is_room_for_cells, fits_cells, is_room_for_code, is_after}
use Rattle.cse_image_parts.specs.Opcodes.{op_of, fits_a, fits_b, fits_c}
use Rattle.cse_image_parts.specs.Texts.{is_text, is_name}
use Rattle.cse_image_parts.specs.declared.entries.EventCode.{EventCode}
use Rattle.cse_image_parts.specs.declared.entries.EventCode.TheVariants as events
use Rattle.cse_image_parts.specs.declared.entries.EventEntry.{EventEntry}
use Rattle.cse_image_parts.specs.declared.entries.GlobalKind.TheVariants as globals
use Rattle.cse_image_parts.specs.declared.entries.LocalKind.TheVariants as locals
use Rattle.cse_image_parts.specs.declared.instruction.Op.{Op}
use Rattle.cse_image_parts.specs.declared.instruction.Op.TheVariants as ops
use Rattle.cse_image_parts.specs.declared.version.Version.TheVariants as versions
use Rattle.cse_test_checks.specs.Rows.{Gives}

-- an umlaut with a blank and a letter, half of it, a character below the blank, and U+007F
abbrev pub texts : List (List ℕ × Bool)
texts = (195 ∷ 164 ∷ codes " b", true) ∷ (195 ∷ [], false) ∷ (97 ∷ 31 ∷ [], false) ∷ (32 ∷ 127 ∷ [], true) ∷ []

-- the fourth and the last have 32 and 33 characters
abbrev pub names : List (List ℕ × Bool)
names =
    (codes "A_1", true) ∷ (codes "", false) ∷ (codes "1A", false) ∷ (codes "ABCDEFGHIJKLMNOPQRSTUVWXYZ_23456", true) ∷ (codes "_A", false) ∷ (codes "Ab", false)
    ∷ (codes "ABCDEFGHIJKLMNOPQRSTUVWXYZ_234567", false) ∷ []

abbrev pub global_texts : List (ℕ × Bool)
global_texts = (255, true) ∷ (256, false) ∷ (0, false) ∷ []

abbrev pub owners : List (Bool × Bool)
owners = (fits_owner locals.Occurrence 7, true) ∷ (fits_owner locals.Number 7, false) ∷ (fits_local_length locals.Occurrence 1, false) ∷ []

-- of two parameters
abbrev pub occurrences : List (ℕ × Bool)
occurrences = (1, true) ∷ (2, false) ∷ []

abbrev pub cells : List ((ℕ × List ℕ) × Bool)
cells = ((0, 100 ∷ 100 ∷ 100 ∷ []), true) ∷ ((1, 100 ∷ 100 ∷ 100 ∷ []), false) ∷ ((0, 65535 ∷ 65535 ∷ 65535 ∷ []), false) ∷ []

abbrev pub starting_cells : List (ℕ × Bool)
starting_cells = (6, true) ∷ (7, false) ∷ []

abbrev pub instructions : List ((ℕ × ℕ) × Bool)
instructions = ((999999, 1), true) ∷ ((999999, 2), false) ∷ ((0, 0), false) ∷ []

abbrev pub last : EventEntry
last = record { code = events.ItemPreproc; index = 4; routine = 0 }

abbrev pub events_behind : List ((EventCode × ℕ) × Bool)
events_behind =
    ((events.ItemPreproc, 5), true) ∷ ((events.ItemPostproc, 0), true) ∷ ((events.ItemPreproc, 4), false) ∷ ((events.RecordPostproc, 9), false) ∷ []

-- an instruction as it is coded: its code, and a, b and c
pub record Coded : Type 0 where
  pub code : ℕ
  pub a : ℕ
  pub b : ℕ
  pub c : ℕ

abbrev pub coded : ℕ → ℕ → ℕ → ℕ → Coded
coded code a b c = record { code = code; a = a; b = b; c = c }

abbrev pub fields_fit : Coded → Op → Bool
fields_fit x op = fits_a op x.a && fits_b versions.One op x.b && fits_c op x.a x.c

-- there is an instruction of this code, and it may have these fields
abbrev pub is_instruction : Coded → Bool
is_instruction x = option_map_or (fields_fit x) (op_of x.code) false

abbrev pub coded_rows : List (Coded × Bool)
coded_rows =
    (coded 1 0 0 4294967295, true) ∷ (coded 2 2 0 0, true) ∷ (coded 14 5 0 0, true) ∷ (coded 22 0 65535 9, true) ∷ (coded 23 255 0 9, true) ∷ (coded 24 0 65535 9, true)
    ∷ (coded 24 1 65535 0, true) ∷ (coded 27 255 0 0, true) ∷ (coded 36 0 65535 0, true) ∷ (coded 41 0 1 9, true) ∷ (coded 42 255 0 9, true) ∷ (coded 45 2 0 0, true)
    ∷ (coded 0 0 0 0, false) ∷ (coded 46 0 0 0, false) ∷ []

abbrev pub wrong_fields : List (Bool × Bool)
wrong_fields =
    (fits_a ops.Special 3, false) ∷ (fits_a ops.Row 2, false) ∷ (fits_b versions.Two ops.Index 0, false) ∷ (fits_b versions.Two ops.LoopOccurrences 1, false)
    ∷ (fits_c ops.Row 1 1, false) ∷ (fits_c ops.Return 0 1, false) ∷ []

pub record PartsAreWorked : Type 0 where
  pub texts_are : Gives is_text texts
  pub names_are : Gives is_name names
  pub lengths_are : Gives (fits_global_length globals.Text) global_texts
  pub owners_are : Gives (λ b. b) owners
  pub occurrences_are : Gives (λ index. fits_kind 2 index locals.Occurrence) occurrences
  pub cells_are : Gives (λ p. is_room_for_cells p.0 p.1) cells
  pub starting_cells_are : Gives (fits_cells (2 ∷ 3 ∷ [])) starting_cells
  pub instructions_are : Gives (λ p. is_room_for_code p.0 p.1) instructions
  pub events_are : Gives (λ p. is_after (Some last) p.0 p.1) events_behind
  pub event_codes_are : Gives event_code ((events.RecordPreproc, 4) ∷ [])
  pub codes_are : Gives is_instruction coded_rows
  pub wrong_fields_are : Gives (λ b. b) wrong_fields
