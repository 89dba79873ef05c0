-- The one spelling of an image in each version of the format, section by section, and which images have
-- one. An image of version 1 has no limits: its spelling lacks that section.
use Rattle.std.specs.Prelude.{◌≡◌, ◌<◌, ◌^◌, ℕ, Option, List, [], ◌∷◌, length, FitsSigned, IsTrue}
use Rattle.std.specs.List.{flat_map, AllByRecursion}
use Rattle.std.specs.Int.{w64}
use Rattle.byteorder.specs.Endian.{little_bytes}
use Rattle.cse_value.specs.declared.shape.RecordShape.{RecordShape}
use Rattle.cse_value.specs.declared.shape.ItemShape.{ItemShape}
use Rattle.cse_value.specs.declared.shape.SetShape.{SetShape}
use Rattle.cse_image_parts.specs.declared.entries.GlobalVariable.{GlobalVariable}
use Rattle.cse_image_parts.specs.declared.entries.Local.{Local}
use Rattle.cse_image_parts.specs.declared.entries.EventEntry.{EventEntry}
use Rattle.cse_image_parts.specs.declared.instruction.Instr.{Instr}
use Rattle.cse_image_parts.specs.declared.limits.TheConstants.{MOST_RECORDS, MOST_ITEMS, MOST_SETS, MOST_ORDER, MOST_CONSTANTS, MOST_LIMITS, MOST_TEXTS, MOST_GLOBALS, MOST_ARRAYS, MOST_MESSAGES, MOST_ROUTINES, MOST_EVENTS}
use Rattle.cse_image_parts.specs.Image.{ArrayLists, MessageLists, RoutineLists, Lists, Image}
use Rattle.cse_image_parts.specs.declared.version.Version.{Version}
use Rattle.cse_image_parts.specs.declared.version.Version.TheVariants as versions
use Rattle.cse_image_parts.specs.Versions.{version_code, may_give}
use Rattle.cse_image_parts.specs.Upgrade.{upgrade}
use Rattle.cse_image_parts.specs.Codes.{flag_code, item_kind_code, global_kind_code, local_kind_code, ambient_code, gift_code, event_code}
use Rattle.cse_image_parts.specs.Texts.{is_text, is_short, is_name, is_new}
use Rattle.cse_image_parts.specs.Fields.{fits_global_length, fits_local_length, fits_owner, fits_kind, are_locals, is_limit, is_dimension_count, is_dimension, cells_in, is_room_for_cells, fits_cells, instructions_in, is_room_for_code, last_event, is_after}
use Rattle.cse_image_parts.specs.Opcodes.{op_code, fits_a, fits_b, fits_c}
use Rattle.cse_image_parts.specs.Placeholders.{has_few_placeholders}
use Rattle.cse_image_parts.specs.Reader.{AllAfter}
use Rattle.cse_image_parts.specs.Spelling.{◌⧺◌, u8, u16, u32, i64, section, SectionFits}

-- ---- spellings

-- "CSEB"
abbrev pub magic : List ℕ
magic = 67 ∷ 83 ∷ 69 ∷ 66 ∷ []

-- the version, 0
abbrev pub header : Version → List ℕ
header version = magic ⧺ u16 (version_code version) ⧺ u16 0

abbrev pub record_shape : RecordShape → List ℕ
record_shape x = u16 x.max_records ⧺ u16 0 ⧺ u32 x.record_len

abbrev pub item_shape : ItemShape → List ℕ
item_shape x = u8 x.owner ⧺ u8 (item_kind_code x.kind) ⧺ u16 x.len ⧺ u32 x.start

abbrev pub set_shape : SetShape → List ℕ
set_shape x = u16 x.item ⧺ u16 x.rows ⧺ u8 (flag_code x.partial) ⧺ little_bytes 3 0

abbrev pub limits : Version → List ℕ → List ℕ
limits versions.One xs = []
limits versions.Two xs = section u32 xs

abbrev pub text : List ℕ → List ℕ
text t = u16 (length t) ⧺ t

abbrev pub global : GlobalVariable → List ℕ
global x = u8 (global_kind_code x.kind) ⧺ u8 0 ⧺ u16 x.length

abbrev pub array : ArrayLists → List ℕ
array x = u8 (flag_code x.saved) ⧺ u8 (length x.dimensions) ⧺ u8 (length x.name) ⧺ u8 0 ⧺ flat_map u16 x.dimensions ⧺ x.name ⧺ u32 (length x.cells) ⧺ flat_map i64 x.cells

abbrev pub message : MessageLists → List ℕ
message x = u32 x.number ⧺ u8 (flag_code x.summary) ⧺ u8 0 ⧺ u16 (length x.text) ⧺ x.text

abbrev pub local : Local → List ℕ
local x = u8 (local_kind_code x.kind) ⧺ u8 x.owner ⧺ u16 x.length

abbrev pub routine : RoutineLists → List ℕ
routine x = u8 (ambient_code x.ambient) ⧺ u8 (gift_code x.gives) ⧺ u8 x.parameters ⧺ u8 (length x.locals) ⧺ flat_map local x.locals ⧺ u32 x.instructions

abbrev pub event : EventEntry → List ℕ
event x = u8 (event_code x.code) ⧺ u8 0 ⧺ u16 x.index ⧺ u32 x.routine

abbrev pub instr : Instr → List ℕ
instr x = u8 (op_code x.op) ⧺ u8 x.a ⧺ u16 x.b ⧺ u32 x.c

abbrev pub lists : Version → Lists → List ℕ
lists version x = section record_shape x.records ⧺ section item_shape x.items ⧺ section set_shape x.sets ⧺ section u32 x.order ⧺ section i64 x.constants ⧺ limits version x.limits ⧺ section text x.texts ⧺ section global x.globals ⧺ section array x.arrays ⧺ section message x.messages ⧺ section routine x.routines ⧺ section event x.events

-- The code has no count: the routines tell how many instructions there are.
abbrev pub spelling_in : Version → Image → List ℕ
spelling_in version x = header version ⧺ lists version x.lists ⧺ flat_map instr x.code

abbrev pub spelling : Image → List ℕ
spelling x = spelling_in versions.Two x

-- ---- what has a spelling

pub record RecordFits (x : RecordShape) : Type 0 where
  pub max_records : x.max_records < 2 ^ 16
  pub record_len : x.record_len < 2 ^ 32

pub record ItemFits (x : ItemShape) : Type 0 where
  pub owner : x.owner < 2 ^ 8
  pub len : x.len < 2 ^ 16
  pub start : x.start < 2 ^ 32

pub record SetFits (x : SetShape) : Type 0 where
  pub item : x.item < 2 ^ 16
  pub rows : x.rows < 2 ^ 16

abbrev pub OrderFits : ℕ → Type 0
OrderFits n = n < 2 ^ 32

pub record LimitFits (n : ℕ) : Type 0 where
  pub size : n < 2 ^ 32
  pub some : IsTrue (is_limit n)

abbrev pub LimitsFit : Version → List ℕ → Type 0
LimitsFit versions.One xs = xs ≡ []
LimitsFit versions.Two xs = SectionFits MOST_LIMITS (λ _. LimitFits) xs

pub record TextFits (t : List ℕ) : Type 0 where
  pub size : length t < 2 ^ 16
  pub form : IsTrue (is_text t)
  pub short : IsTrue (is_short t)

pub record GlobalFits (x : GlobalVariable) : Type 0 where
  pub size : x.length < 2 ^ 16
  pub length : IsTrue (fits_global_length x.kind x.length)

pub record DimensionFits (d : ℕ) : Type 0 where
  pub size : d < 2 ^ 16
  pub some : IsTrue (is_dimension d)

-- before are the arrays before it
pub record ArrayFits (before : List ArrayLists) (x : ArrayLists) : Type 0 where
  pub count : IsTrue (is_dimension_count (length x.dimensions))
  pub dimensions : AllByRecursion DimensionFits x.dimensions
  pub room : IsTrue (is_room_for_cells (cells_in before) x.dimensions)
  pub name : IsTrue (is_name x.name)
  pub new : IsTrue (is_new before x.name)
  pub cell_count : IsTrue (fits_cells x.dimensions (length x.cells))
  pub size : length x.cells < 2 ^ 32
  pub cells : AllByRecursion (FitsSigned w64) x.cells

pub record MessageFits (x : MessageLists) : Type 0 where
  pub number : x.number < 2 ^ 32
  pub text : TextFits x.text
  pub few : IsTrue (has_few_placeholders x.text)

-- the local at this place, from 0, beside so many parameters
pub record LocalFits (parameters index : ℕ) (x : Local) : Type 0 where
  pub kind : IsTrue (fits_kind parameters index x.kind)
  pub owner_size : x.owner < 2 ^ 8
  pub owner : IsTrue (fits_owner x.kind x.owner)
  pub length_size : x.length < 2 ^ 16
  pub length : IsTrue (fits_local_length x.kind x.length)

-- the locals beside so many parameters, which are among them
pub record LocalsFit (parameters : ℕ) (xs : List Local) : Type 0 where
  pub count : length xs < 2 ^ 8
  pub among : IsTrue (are_locals parameters (length xs))
  pub each : AllAfter (λ before. LocalFits parameters (length before)) [] xs

-- before is how many instructions the routines before it have
pub record RoutineFits (version : Version) (before : ℕ) (x : RoutineLists) : Type 0 where
  pub gives : IsTrue (may_give version x.gives)
  pub parameters : x.parameters < 2 ^ 8
  pub locals : LocalsFit x.parameters x.locals
  pub size : x.instructions < 2 ^ 32
  pub room : IsTrue (is_room_for_code before x.instructions)

pub record EventFits (last : Option EventEntry) (x : EventEntry) : Type 0 where
  pub index : x.index < 2 ^ 16
  pub after : IsTrue (is_after last x.code x.index)
  pub routine : x.routine < 2 ^ 32

pub record InstrFits (version : Version) (x : Instr) : Type 0 where
  pub a_size : x.a < 2 ^ 8
  pub a : IsTrue (fits_a x.op x.a)
  pub b_size : x.b < 2 ^ 16
  pub b : IsTrue (fits_b version x.op x.b)
  pub c_size : x.c < 2 ^ 32
  pub c : IsTrue (fits_c x.op x.a x.c)

pub record ListsFit (version : Version) (x : Lists) : Type 0 where
  pub records : SectionFits MOST_RECORDS (λ _. RecordFits) x.records
  pub items : SectionFits MOST_ITEMS (λ _. ItemFits) x.items
  pub sets : SectionFits MOST_SETS (λ _. SetFits) x.sets
  pub order : SectionFits MOST_ORDER (λ _. OrderFits) x.order
  pub constants : SectionFits MOST_CONSTANTS (λ _. FitsSigned w64) x.constants
  pub limits : LimitsFit version x.limits
  pub texts : SectionFits MOST_TEXTS (λ _. TextFits) x.texts
  pub globals : SectionFits MOST_GLOBALS (λ _. GlobalFits) x.globals
  pub arrays : SectionFits MOST_ARRAYS ArrayFits x.arrays
  pub messages : SectionFits MOST_MESSAGES (λ _. MessageFits) x.messages
  pub routines : SectionFits MOST_ROUTINES (λ before. RoutineFits version (instructions_in before)) x.routines
  pub events : SectionFits MOST_EVENTS (λ before. EventFits (last_event before)) x.events

pub record FitsIn (version : Version) (x : Image) : Type 0 where
  pub lists : ListsFit version x.lists
  pub code : AllByRecursion (InstrFits version) x.code
  pub count : length x.code ≡ instructions_in x.lists.routines

abbrev pub Fits : Image → Type 0
Fits x = FitsIn versions.Two x

-- The bytes are the spelling of the image in this version.
pub record SpellsIn (version : Version) (x : Image) (bytes : List ℕ) : Type 0 where
  pub fits : FitsIn version x
  pub bytes_are : bytes ≡ spelling_in version x

abbrev pub Spells : Image → List ℕ → Type 0
Spells x bytes = SpellsIn versions.Two x bytes

-- ---- which program a spelling stands for

-- an image of version 1 stands for its upgrade
abbrev pub program_in : Version → Image → Image
program_in versions.One x = upgrade x
program_in versions.Two x = x

-- The bytes are the version 2 spelling of the program, or the version 1 spelling of an image whose
-- upgrade it is.
pub record StandFor (x : Image) (bytes : List ℕ) : Type 0 where
  pub version : Version
  pub image : Image
  pub spells : SpellsIn version image bytes
  pub stands : x ≡ program_in version image
