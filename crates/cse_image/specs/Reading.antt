-- How an image is read: the version first, and by its rules each entry and section field by field, in the
-- order of the format. The first field that isn't whole or breaks its rule is the fault.
use Rattle.std.specs.Prelude.{ℕ, Bool, ◌||◌, ◌==◌, not, List, [], ◌∷◌, ◌++◌, Option, Result, Ok, Err, length}
use Rattle.std.specs.Str.{bytes_eq}
use Rattle.cse_value.specs.declared.shape.RecordShape.{RecordShape}
use Rattle.cse_value.specs.declared.shape.ItemShape.{ItemShape}
use Rattle.cse_value.specs.declared.shape.SetShape.{SetShape}
use Rattle.cse_image_parts.specs.declared.entries.GlobalVariable.{GlobalVariable}
use Rattle.cse_image_parts.specs.declared.entries.Local.{Local}
use Rattle.cse_image_parts.specs.declared.entries.EventEntry.{EventEntry}
use Rattle.cse_image_parts.specs.declared.instruction.Instr.{Instr}
use Rattle.cse_image_parts.specs.declared.limits.TheConstants.{MOST_RECORDS, MOST_ITEMS, MOST_SETS, MOST_ORDER, MOST_CONSTANTS, MOST_LIMITS, MOST_TEXTS, MOST_GLOBALS, MOST_ARRAYS, MOST_MESSAGES, MOST_ROUTINES, MOST_EVENTS}
use Rattle.cse_image_parts.specs.Image.{ArrayLists, MessageLists, RoutineLists, Lists, Image}
use Rattle.cse_image_parts.specs.declared.version.Version.{Version}
use Rattle.cse_image_parts.specs.declared.version.Version.TheVariants as versions
use Rattle.cse_image_parts.specs.Versions.{version_of, may_give}
use Rattle.cse_image_parts.specs.Codes.{flag_of, item_kind_of, global_kind_of, local_kind_of, ambient_of, gift_of, event_code_of}
use Rattle.cse_image_parts.specs.Texts.{is_text, is_short, is_name, is_new}
use Rattle.cse_image_parts.specs.Fields.{fits_global_length, fits_local_length, fits_owner, fits_kind, are_locals, is_limit, is_dimension_count, is_dimension, cells_in, is_room_for_cells, fits_cells, instructions_in, is_room_for_code, last_event, is_after}
use Rattle.cse_image_parts.specs.Opcodes.{op_of, fits_a, fits_b, fits_c}
use Rattle.cse_image_parts.specs.Placeholders.{has_few_placeholders}
use Rattle.cse_image_parts.specs.declared.fault.Rule.TheVariants.{Header, Form, Limit}
use Rattle.cse_image_parts.specs.declared.fault.FieldFault.{FieldFault}
use Rattle.cse_image_parts.specs.Reader.{Reader, ◌>>=◌, done, some_bytes, number, signed, checked, decoded, many, each, counted, whole, without_rest}
use Rattle.cse_image.specs.Spelling.{magic, program_in}

-- a field of so many bytes that must be 0
unfoldable pub zero_at : ℕ → Reader ℕ
zero_at width = checked Form (λ n. n == 0) (number width)

unfoldable pub flag_at : Reader Bool
flag_at = decoded Form flag_of (number 1)

-- Of fewer than 8 bytes nothing is looked at.
unfoldable pub header_at : Reader Version
header_at = whole 8 (do
  magic ← checked Header (λ xs. bytes_eq xs magic) (some_bytes 4)
  version ← decoded Header version_of (number 2)
  zero ← zero_at 2
  done version)

unfoldable pub record_at : Reader RecordShape
record_at = do
  max_records ← number 2
  zero ← zero_at 2
  record_len ← number 4
  done (record { max_records = max_records; record_len = record_len })

unfoldable pub item_at : Reader ItemShape
item_at = do
  owner ← number 1
  kind ← decoded Form item_kind_of (number 1)
  len ← number 2
  start ← number 4
  done (record { owner = owner; kind = kind; len = len; start = start })

unfoldable pub set_at : Reader SetShape
set_at = do
  item ← number 2
  rows ← number 2
  partial ← flag_at
  zero ← zero_at 3
  done (record { item = item; rows = rows; partial = partial })

unfoldable pub limit_at : Reader ℕ
limit_at = checked Form is_limit (number 4)

-- version 1 has no such section
unfoldable pub limits_at : Version → Reader (List ℕ)
limits_at versions.One = done []
limits_at versions.Two = counted MOST_LIMITS (λ _. limit_at)

-- the characters of a text: 63 comes before 64
unfoldable pub characters_at : ℕ → Reader (List ℕ)
characters_at len = checked Limit is_short (checked Form is_text (some_bytes len))

unfoldable pub text_at : Reader (List ℕ)
text_at = do
  len ← number 2
  text ← characters_at len
  done text

unfoldable pub global_at : Reader GlobalVariable
global_at = do
  kind ← decoded Form global_kind_of (number 1)
  zero ← zero_at 1
  length ← checked Form (fits_global_length kind) (number 2)
  done (record { kind = kind; length = length })

-- At the last of its dimensions an array has room beside the cells before it.
abbrev pub has_room_at_last : ℕ → ℕ → List ℕ → Bool
has_room_at_last cells rank dimensions = not (length dimensions == rank) || is_room_for_cells cells dimensions

-- one of so many dimensions, after those before it, beside so many cells
unfoldable pub dimension_at : ℕ → ℕ → List ℕ → Reader ℕ
dimension_at cells rank before = checked Limit (λ d. has_room_at_last cells rank (before ++ d ∷ [])) (checked Form is_dimension (number 2))

unfoldable pub name_at : List ArrayLists → ℕ → Reader (List ℕ)
name_at before len = checked Form (is_new before) (checked Form is_name (some_bytes len))

-- before are the arrays before it
unfoldable pub array_at : List ArrayLists → Reader ArrayLists
array_at before = do
  saved ← flag_at
  rank ← checked Limit is_dimension_count (number 1)
  len ← number 1
  zero ← zero_at 1
  dimensions ← many (dimension_at (cells_in before) rank) [] rank
  name ← name_at before len
  count ← checked Limit (fits_cells dimensions) (number 4)
  cells ← each signed count
  done (record { saved = saved; dimensions = dimensions; name = name; cells = cells })

unfoldable pub message_at : Reader MessageLists
message_at = do
  own ← number 4
  summary ← flag_at
  zero ← zero_at 1
  len ← number 2
  text ← checked Limit has_few_placeholders (characters_at len)
  done (record { number = own; summary = summary; text = text })

-- the local at this place, from 0, beside so many parameters
unfoldable pub local_at : ℕ → ℕ → Reader Local
local_at parameters index = do
  kind ← checked Form (fits_kind parameters index) (decoded Form local_kind_of (number 1))
  owner ← checked Form (fits_owner kind) (number 1)
  length ← checked Form (fits_local_length kind) (number 2)
  done (record { kind = kind; owner = owner; length = length })

-- before is how many instructions the routines before it have
unfoldable pub routine_at : Version → ℕ → Reader RoutineLists
routine_at version before = do
  ambient ← decoded Form ambient_of (number 1)
  gives ← checked Form (may_give version) (decoded Form gift_of (number 1))
  parameters ← number 1
  count ← checked Form (are_locals parameters) (number 1)
  locals ← many (λ before. local_at parameters (length before)) [] count
  instructions ← checked Limit (is_room_for_code before) (number 4)
  done (record { ambient = ambient; gives = gives; parameters = parameters; locals = locals; instructions = instructions })

unfoldable pub event_at : Option EventEntry → Reader EventEntry
event_at last = do
  code ← decoded Form event_code_of (number 1)
  zero ← zero_at 1
  index ← checked Form (is_after last code) (number 2)
  routine ← number 4
  done (record { code = code; index = index; routine = routine })

unfoldable pub instr_at : Version → Reader Instr
instr_at version = do
  op ← decoded Form op_of (number 1)
  a ← checked Form (fits_a op) (number 1)
  b ← checked Form (fits_b version op) (number 2)
  c ← checked Form (fits_c op a) (number 4)
  done (record { op = op; a = a; b = b; c = c })

unfoldable pub lists_at : Version → Reader Lists
lists_at version = do
  records ← counted MOST_RECORDS (λ _. record_at)
  items ← counted MOST_ITEMS (λ _. item_at)
  sets ← counted MOST_SETS (λ _. set_at)
  order ← counted MOST_ORDER (λ _. number 4)
  constants ← counted MOST_CONSTANTS (λ _. signed)
  limits ← limits_at version
  texts ← counted MOST_TEXTS (λ _. text_at)
  globals ← counted MOST_GLOBALS (λ _. global_at)
  arrays ← counted MOST_ARRAYS array_at
  messages ← counted MOST_MESSAGES (λ _. message_at)
  routines ← counted MOST_ROUTINES (λ before. routine_at version (instructions_in before))
  events ← counted MOST_EVENTS (λ before. event_at (last_event before))
  done (record { records = records; items = items; sets = sets; order = order; constants = constants; limits = limits; texts = texts; globals = globals; arrays = arrays; messages = messages; routines = routines; events = events })

-- an image, and the version of its spelling
pub record Edition : Type 0 where
  pub version : Version
  pub image : Image

abbrev pub edition : Version → Image → Edition
edition version image = record { version = version; image = image }

unfoldable pub edition_at : Reader Edition
edition_at = do
  version ← header_at
  lists ← lists_at version
  code ← each (instr_at version) (instructions_in lists.routines)
  done (edition version (record { lists = lists; code = code }))

-- the image that all of the bytes are, or the first fault
unfoldable pub whole_edition : List ℕ → Result Edition FieldFault
whole_edition bytes = without_rest (edition_at bytes)

abbrev pub programs : Result Edition FieldFault → Result Image FieldFault
programs (Ok x) = Ok (program_in x.version x.image)
programs (Err f) = Err f

-- the program that all of the bytes stand for, or the first fault
unfoldable pub reading : List ℕ → Result Image FieldFault
reading bytes = programs (whole_edition bytes)
