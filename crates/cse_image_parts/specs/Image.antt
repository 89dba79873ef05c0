-- What an image says: one list for each section, free of where the lists lie in memory.
-- Texts and names are the bytes of their UTF-8.
use Rattle.std.specs.Prelude.{ℕ, ℤ, Bool, List, map}
use Rattle.std.specs.String.{string_bytes}
use Rattle.cse_value.specs.declared.shape.RecordShape.{RecordShape}
use Rattle.cse_value.specs.declared.shape.ItemShape.{ItemShape}
use Rattle.cse_value.specs.declared.shape.SetShape.{SetShape}
use Rattle.cse_image_parts.specs.declared.instruction.Instr.{Instr}
use Rattle.cse_image_parts.specs.declared.entries.GlobalVariable.{GlobalVariable}
use Rattle.cse_image_parts.specs.declared.entries.Local.{Local}
use Rattle.cse_image_parts.specs.declared.entries.Array.{Array}
use Rattle.cse_image_parts.specs.declared.entries.Message.{Message}
use Rattle.cse_image_parts.specs.declared.entries.Ambient.{Ambient}
use Rattle.cse_image_parts.specs.declared.entries.Gift.{Gift}
use Rattle.cse_image_parts.specs.declared.entries.Routine.{Routine}
use Rattle.cse_image_parts.specs.declared.entries.EventEntry.{EventEntry}
use Rattle.cse_image_parts.specs.declared.entries.Parts.{Parts}
use Rattle.cse_image_parts.specs.declared.entries.Tables.{Tables}

pub record ArrayLists : Type 0 where
  pub saved : Bool
  pub dimensions : List ℕ
  pub name : List ℕ
  pub cells : List ℤ

pub record MessageLists : Type 0 where
  pub number : ℕ
  pub summary : Bool
  pub text : List ℕ

pub record RoutineLists : Type 0 where
  pub ambient : Ambient
  pub gives : Gift
  pub parameters : ℕ
  pub locals : List Local
  pub instructions : ℕ

-- The sections before the code. The limits are those of counting loops; a loop names its limit by the place.
pub record Lists : Type 0 where
  pub records : List RecordShape
  pub items : List ItemShape
  pub sets : List SetShape
  pub order : List ℕ
  pub constants : List ℤ
  pub limits : List ℕ
  pub texts : List (List ℕ)
  pub globals : List GlobalVariable
  pub arrays : List ArrayLists
  pub messages : List MessageLists
  pub routines : List RoutineLists
  pub events : List EventEntry

-- The code is the instructions of all routines, one routine after the other.
pub record Image : Type 0 where
  pub lists : Lists
  pub code : List Instr

-- ---- what the types of the program stand for

abbrev pub array_lists : Array → ArrayLists
array_lists x = record { saved = x.saved; dimensions = x.dimensions.items; name = string_bytes x.name; cells = x.cells.items }

abbrev pub message_lists : Message → MessageLists
message_lists x = record { number = x.number; summary = x.summary; text = string_bytes x.text }

abbrev pub routine_lists : Routine → RoutineLists
routine_lists x = record { ambient = x.ambient; gives = x.gives; parameters = x.parameters; locals = x.locals.items; instructions = x.instructions }

abbrev pub lists_of : Tables → Lists
lists_of t = record {
  records = t.records.items;
  items = t.items.items;
  sets = t.sets.items;
  order = t.order.items;
  constants = t.constants.items;
  limits = t.limits.items;
  texts = map string_bytes t.texts.items;
  globals = t.globals.items;
  arrays = map array_lists t.arrays.items;
  messages = map message_lists t.messages.items;
  routines = map routine_lists t.routines.items;
  events = t.events.items;
}

abbrev pub lists_of_parts : Parts → Lists
lists_of_parts p = record {
  records = p.records.items;
  items = p.items.items;
  sets = p.sets.items;
  order = p.order.items;
  constants = p.constants.items;
  limits = p.limits.items;
  texts = map string_bytes p.texts.items;
  globals = p.globals.items;
  arrays = map array_lists p.arrays.items;
  messages = map message_lists p.messages.items;
  routines = map routine_lists p.routines.items;
  events = p.events.items;
}

abbrev pub image_of : Parts → Image
image_of p = record { lists = lists_of_parts p; code = p.code.items }

-- tables, and instructions wherever they lie
abbrev pub image_with : Tables → List Instr → Image
image_with t code = record { lists = lists_of t; code = code }
