-- Each code of one byte stands for one value, and each value has one code.
use Rattle.std.proofs.Common.{◌≡◌, ℕ, Bool, true, false, cond, eqb, List, [], ◌∷◌, Some, ◌<◌, refl, subst, arith}
use Rattle.std.proofs.lemmas.Bool.{eqb-true}
use Rattle.cse_value.specs.declared.shape.ItemKind.{ItemKind}
use Rattle.cse_value.specs.declared.shape.ItemKind.TheVariants as items
use Rattle.cse_image_parts.specs.declared.entries.GlobalKind.{GlobalKind}
use Rattle.cse_image_parts.specs.declared.entries.GlobalKind.TheVariants as globals
use Rattle.cse_image_parts.specs.declared.entries.LocalKind.{LocalKind}
use Rattle.cse_image_parts.specs.declared.entries.LocalKind.TheVariants as locals
use Rattle.cse_image_parts.specs.declared.entries.Ambient.{Ambient}
use Rattle.cse_image_parts.specs.declared.entries.Ambient.TheVariants as ambients
use Rattle.cse_image_parts.specs.declared.entries.Gift.{Gift}
use Rattle.cse_image_parts.specs.declared.entries.Gift.TheVariants as gifts
use Rattle.cse_image_parts.specs.declared.entries.EventCode.{EventCode}
use Rattle.cse_image_parts.specs.declared.entries.EventCode.TheVariants as events
use Rattle.cse_image_parts.specs.declared.version.Version.{Version}
use Rattle.cse_image_parts.specs.declared.version.Version.TheVariants as versions
use Rattle.cse_image_parts.specs.Versions.{version_code, version_of}
use Rattle.cse_image_parts.specs.Codes.{named, HasOneCode, flag_code, flag_of, item_kind_code, item_kind_of, global_kind_code, global_kind_of, local_kind_code, local_kind_of, ambient_code, ambient_of, gift_code, gift_of, event_code, event_code_of}

named_step : {X : Type 0} (code : X → ℕ) (ys : List X) (n : ℕ) (x y : X) (b : Bool) → eqb (code y) n ≡ b → cond b (Some y) (named code ys n) ≡ Some x → (named code ys n ≡ Some x → code x ≡ n) → code x ≡ n
named_step code ys n x y true test e later = let same : y ≡ x = cc in subst (λ z. code z ≡ n) same (eqb-true (code y) n test)
named_step code ys n x y false test e later = later e

-- what a number names has that number
pub named_back : {X : Type 0} (code : X → ℕ) (all : List X) (n : ℕ) (x : X) → named code all n ≡ Some x → code x ≡ n
named_back code [] n x e = absurd cc
named_back code (y ∷ ys) n x e = named_step code ys n x y (eqb (code y) n) refl e (named_back code ys n x)

pub flag_there : (x : Bool) → flag_of (flag_code x) ≡ Some x
flag_there false = refl
flag_there true = refl

pub flag_small : (x : Bool) → flag_code x < 256
flag_small false = omega arith
flag_small true = omega arith

pub flag_back : (n : ℕ) (x : Bool) → flag_of n ≡ Some x → flag_code x ≡ n
flag_back n x e = named_back flag_code (false ∷ true ∷ []) n x e

pub item_kind_there : (x : ItemKind) → item_kind_of (item_kind_code x) ≡ Some x
item_kind_there items.Opaque = refl
item_kind_there items.Number = refl
item_kind_there items.Text = refl

pub item_kind_small : (x : ItemKind) → item_kind_code x < 256
item_kind_small items.Opaque = omega arith
item_kind_small items.Number = omega arith
item_kind_small items.Text = omega arith

pub item_kind_back : (n : ℕ) (x : ItemKind) → item_kind_of n ≡ Some x → item_kind_code x ≡ n
item_kind_back n x e = named_back item_kind_code (items.Opaque ∷ items.Number ∷ items.Text ∷ []) n x e

pub global_kind_there : (x : GlobalKind) → global_kind_of (global_kind_code x) ≡ Some x
global_kind_there globals.Number = refl
global_kind_there globals.Text = refl

pub global_kind_small : (x : GlobalKind) → global_kind_code x < 256
global_kind_small globals.Number = omega arith
global_kind_small globals.Text = omega arith

pub global_kind_back : (n : ℕ) (x : GlobalKind) → global_kind_of n ≡ Some x → global_kind_code x ≡ n
global_kind_back n x e = named_back global_kind_code (globals.Number ∷ globals.Text ∷ []) n x e

pub local_kind_there : (x : LocalKind) → local_kind_of (local_kind_code x) ≡ Some x
local_kind_there locals.Number = refl
local_kind_there locals.Text = refl
local_kind_there locals.Occurrence = refl

pub local_kind_small : (x : LocalKind) → local_kind_code x < 256
local_kind_small locals.Number = omega arith
local_kind_small locals.Text = omega arith
local_kind_small locals.Occurrence = omega arith

pub local_kind_back : (n : ℕ) (x : LocalKind) → local_kind_of n ≡ Some x → local_kind_code x ≡ n
local_kind_back n x e = named_back local_kind_code (locals.Number ∷ locals.Text ∷ locals.Occurrence ∷ []) n x e

pub ambient_there : (x : Ambient) → ambient_of (ambient_code x) ≡ Some x
ambient_there ambients.Run = refl
ambient_there ambients.Case = refl

pub ambient_small : (x : Ambient) → ambient_code x < 256
ambient_small ambients.Run = omega arith
ambient_small ambients.Case = omega arith

pub ambient_back : (n : ℕ) (x : Ambient) → ambient_of n ≡ Some x → ambient_code x ≡ n
ambient_back n x e = named_back ambient_code (ambients.Run ∷ ambients.Case ∷ []) n x e

pub gift_there : (x : Gift) → gift_of (gift_code x) ≡ Some x
gift_there gifts.Nothing = refl
gift_there gifts.Number = refl
gift_there gifts.Text = refl

pub gift_small : (x : Gift) → gift_code x < 256
gift_small gifts.Nothing = omega arith
gift_small gifts.Number = omega arith
gift_small gifts.Text = omega arith

pub gift_back : (n : ℕ) (x : Gift) → gift_of n ≡ Some x → gift_code x ≡ n
gift_back n x e = named_back gift_code (gifts.Nothing ∷ gifts.Number ∷ gifts.Text ∷ []) n x e

pub event_code_there : (x : EventCode) → event_code_of (event_code x) ≡ Some x
event_code_there events.ApplicationPreproc = refl
event_code_there events.ApplicationPostproc = refl
event_code_there events.LevelPreproc = refl
event_code_there events.LevelPostproc = refl
event_code_there events.RecordPreproc = refl
event_code_there events.RecordPostproc = refl
event_code_there events.ItemPreproc = refl
event_code_there events.ItemPostproc = refl

pub event_code_small : (x : EventCode) → event_code x < 256
event_code_small events.ApplicationPreproc = omega arith
event_code_small events.ApplicationPostproc = omega arith
event_code_small events.LevelPreproc = omega arith
event_code_small events.LevelPostproc = omega arith
event_code_small events.RecordPreproc = omega arith
event_code_small events.RecordPostproc = omega arith
event_code_small events.ItemPreproc = omega arith
event_code_small events.ItemPostproc = omega arith

pub event_code_back : (n : ℕ) (x : EventCode) → event_code_of n ≡ Some x → event_code x ≡ n
event_code_back n x e = named_back event_code (events.ApplicationPreproc ∷ events.ApplicationPostproc ∷ events.LevelPreproc ∷ events.LevelPostproc ∷ events.RecordPreproc ∷ events.RecordPostproc ∷ events.ItemPreproc ∷ events.ItemPostproc ∷ []) n x e

pub version_there : (x : Version) → version_of (version_code x) ≡ Some x
version_there versions.One = refl
version_there versions.Two = refl

pub version_small : (x : Version) → version_code x < 256
version_small versions.One = omega arith
version_small versions.Two = omega arith

pub version_back : (n : ℕ) (x : Version) → version_of n ≡ Some x → version_code x ≡ n
version_back n x e = named_back version_code (versions.One ∷ versions.Two ∷ []) n x e

pub version_code_is_one : (x : Version) → HasOneCode version_code version_of x
version_code_is_one x = record { there = version_there x; back = λ n e. version_back n x e; small = version_small x }

pub flag_code_is_one : (x : Bool) → HasOneCode flag_code flag_of x
flag_code_is_one x = record { there = flag_there x; back = λ n e. flag_back n x e; small = flag_small x }

pub item_kind_code_is_one : (x : ItemKind) → HasOneCode item_kind_code item_kind_of x
item_kind_code_is_one x = record { there = item_kind_there x; back = λ n e. item_kind_back n x e; small = item_kind_small x }

pub global_kind_code_is_one : (x : GlobalKind) → HasOneCode global_kind_code global_kind_of x
global_kind_code_is_one x = record { there = global_kind_there x; back = λ n e. global_kind_back n x e; small = global_kind_small x }

pub local_kind_code_is_one : (x : LocalKind) → HasOneCode local_kind_code local_kind_of x
local_kind_code_is_one x = record { there = local_kind_there x; back = λ n e. local_kind_back n x e; small = local_kind_small x }

pub ambient_code_is_one : (x : Ambient) → HasOneCode ambient_code ambient_of x
ambient_code_is_one x = record { there = ambient_there x; back = λ n e. ambient_back n x e; small = ambient_small x }

pub gift_code_is_one : (x : Gift) → HasOneCode gift_code gift_of x
gift_code_is_one x = record { there = gift_there x; back = λ n e. gift_back n x e; small = gift_small x }

pub event_code_is_one : (x : EventCode) → HasOneCode event_code event_code_of x
event_code_is_one x = record { there = event_code_there x; back = λ n e. event_code_back n x e; small = event_code_small x }
