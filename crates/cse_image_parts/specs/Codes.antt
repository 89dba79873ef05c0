-- The codes of one byte: which number stands for which value of a kind, a flag, a gift and so on.
use Rattle.std.specs.Prelude.{◌≡◌, ◌<◌, ℕ, Bool, true, false, ◌==◌, List, [], ◌∷◌, Option, Some}
use Rattle.std.specs.List.{find}
use Rattle.cse_value.specs.declared.shape.ItemKind.{ItemKind}
use Rattle.cse_value.specs.declared.shape.ItemKind.TheVariants as items
use Rattle.cse_image_parts.specs.declared.entries.GlobalKind.{GlobalKind}
use Rattle.cse_image_parts.specs.declared.entries.GlobalKind.TheVariants as globals
use Rattle.cse_image_parts.specs.declared.entries.LocalKind.{LocalKind}
use Rattle.cse_image_parts.specs.declared.entries.LocalKind.TheVariants as locals
use Rattle.cse_image_parts.specs.declared.entries.Ambient.{Ambient}
use Rattle.cse_image_parts.specs.declared.entries.Ambient.TheVariants as ambients
use Rattle.cse_image_parts.specs.declared.entries.Gift.{Gift}
use Rattle.cse_image_parts.specs.declared.entries.Gift.TheVariants as gifts
use Rattle.cse_image_parts.specs.declared.entries.EventCode.{EventCode}
use Rattle.cse_image_parts.specs.declared.entries.EventCode.TheVariants as events

-- the value among these that has the number
abbrev pub named : {X : Type 0} → (X → ℕ) → List X → ℕ → Option X
named code all n = find (λ x. code x == n) all

-- a value is the one that its code stands for, and no other number stands for it
pub record HasOneCode {X : Type 0} (code : X → ℕ) (value_of : ℕ → Option X) (x : X) : Type 0 where
  pub there : value_of (code x) ≡ Some x
  pub back : (n : ℕ) → value_of n ≡ Some x → code x ≡ n
  pub small : code x < 256

-- saved, summary, partial
abbrev pub flag_code : Bool → ℕ
flag_code false = 0
flag_code true = 1

abbrev pub flag_of : ℕ → Option Bool
flag_of = named flag_code (false ∷ true ∷ [])

abbrev pub item_kind_code : ItemKind → ℕ
item_kind_code items.Opaque = 0
item_kind_code items.Number = 1
item_kind_code items.Text = 2

abbrev pub item_kind_of : ℕ → Option ItemKind
item_kind_of = named item_kind_code (items.Opaque ∷ items.Number ∷ items.Text ∷ [])

abbrev pub global_kind_code : GlobalKind → ℕ
global_kind_code globals.Number = 1
global_kind_code globals.Text = 2

abbrev pub global_kind_of : ℕ → Option GlobalKind
global_kind_of = named global_kind_code (globals.Number ∷ globals.Text ∷ [])

abbrev pub local_kind_code : LocalKind → ℕ
local_kind_code locals.Number = 1
local_kind_code locals.Text = 2
local_kind_code locals.Occurrence = 3

abbrev pub local_kind_of : ℕ → Option LocalKind
local_kind_of = named local_kind_code (locals.Number ∷ locals.Text ∷ locals.Occurrence ∷ [])

abbrev pub ambient_code : Ambient → ℕ
ambient_code ambients.Run = 0
ambient_code ambients.Case = 1

abbrev pub ambient_of : ℕ → Option Ambient
ambient_of = named ambient_code (ambients.Run ∷ ambients.Case ∷ [])

abbrev pub gift_code : Gift → ℕ
gift_code gifts.Nothing = 0
gift_code gifts.Number = 1
gift_code gifts.Text = 2

abbrev pub gift_of : ℕ → Option Gift
gift_of = named gift_code (gifts.Nothing ∷ gifts.Number ∷ gifts.Text ∷ [])

abbrev pub event_code : EventCode → ℕ
event_code events.ApplicationPreproc = 0
event_code events.ApplicationPostproc = 1
event_code events.LevelPreproc = 2
event_code events.LevelPostproc = 3
event_code events.RecordPreproc = 4
event_code events.RecordPostproc = 5
event_code events.ItemPreproc = 6
event_code events.ItemPostproc = 7

abbrev pub event_code_of : ℕ → Option EventCode
event_code_of = named event_code (events.ApplicationPreproc ∷ events.ApplicationPostproc ∷ events.LevelPreproc ∷ events.LevelPostproc ∷ events.RecordPreproc ∷ events.RecordPostproc ∷ events.ItemPreproc ∷ events.ItemPostproc ∷ [])
