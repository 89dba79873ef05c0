-- The program of a typed source, as far as it is a function of it: its tables, and the instructions with their constants, texts and loop
-- limits by value, for which those of the program stand.
use Rattle.std.specs.Prelude.{◌≡◌, ℕ, List, [], ◌++◌, length, map, Option, Some, None}
use Rattle.std.specs.List.{flat_map}
use Rattle.cse_value.specs.declared.shape.RecordShape.{RecordShape}
use Rattle.cse_image_parts.specs.declared.entries.EventEntry.{EventEntry}
use Rattle.cse_image_parts.specs.Image.{Image, Lists, ArrayLists, RoutineLists}
use Rattle.cse_dict.specs.Dictionary.{DictionaryText, shape_of}
use Rattle.cse_code_typing.specs.Shapes as shapes
use Rattle.cse_logic_tree.specs.Typed.{Declaration, Tree}
use Rattle.cse_compile.specs.Pools.{PoolLists}
use Rattle.cse_compile.specs.Tables.{globals_in, arrays_in, message_of}
use Rattle.cse_compile.specs.Order.{edit_order}
use Rattle.cse_compile.specs.Outline.{Outline, Handler, functions_in, handlers_in, routine_of, result_at}
use Rattle.cse_compile.specs.Events.{entries_in, table_from}
use Rattle.cse_compile.specs.Wide.{Wide}
use Rattle.cse_compile.specs.Setting.{Setting}
use Rattle.cse_compile.specs.Routines.{routine_size, routine_code}
use Rattle.cse_compile.specs.Stands.{AllStand}

-- ---- code

-- what the code of a routine depends on besides its tree
abbrev pub setting_of : List RecordShape → List (List ℕ) → Option ℕ → Setting
setting_of records arrays result = record { records = records; arrays = arrays; result_at = result }

abbrev pub setting_for : List RecordShape → List (List ℕ) → Outline → Setting
setting_for records arrays x = setting_of records arrays (result_at x.sort)

abbrev pub code_of : List RecordShape → List (List ℕ) → Outline → List Wide
code_of records arrays x = routine_code (setting_for records arrays x) x.body

abbrev pub all_code : List RecordShape → List (List ℕ) → List Outline → List Wide
all_code records arrays xs = flat_map (code_of records arrays) xs

-- a routine as the image has it
abbrev pub entry_of : List RecordShape → List (List ℕ) → Outline → RoutineLists
entry_of records arrays x = routine_of x.sort (routine_size (setting_for records arrays x) x.body)

-- ---- the source

abbrev pub declarations_in : Option (List Declaration) → List Declaration
declarations_in None = []
declarations_in (Some ds) = ds

abbrev pub declarations : Tree → List Declaration
declarations t = declarations_in t.globals

abbrev pub handlers : Tree → List Handler
handlers t = handlers_in t.procedures

-- function k is routine k, and the procedures' routines follow
abbrev pub outlines : Tree → List Outline
outlines t = functions_in (declarations t) ++ map (λ x. x.outline) (handlers t)

abbrev pub sizes : Tree → List (List ℕ)
sizes t = map (λ (x : ArrayLists). x.dimensions) (arrays_in (declarations t))

abbrev pub events : DictionaryText → Tree → List EventEntry
events d t = entries_in (table_from [] (length (functions_in (declarations t))) (handlers t)) (length (shape_of d).records) (length (shape_of d).items)

abbrev pub pools_of : Lists → PoolLists
pools_of x = record { constants = x.constants; limits = x.limits; texts = x.texts }

-- ---- the program

-- The program has the dictionary's shape, and the tables of the source, in its order and no others: globals, arrays (name, dimensions, `save`, starting cells) and
-- messages; the named records come first in its edit order; function k is routine k, and then come the routines of the procedures'
-- parts, in order of the source, each with its event. Its instructions stand for the code of these routines, one after the other.
pub record IsProgramOf (d : DictionaryText) (named : List ℕ) (t : Tree) (x : Image) : Type 0 where
  pub shape : shape_of d ≡ shapes.shape_of x
  pub order : x.lists.order ≡ edit_order (length (shape_of d).records) named
  pub globals : x.lists.globals ≡ globals_in (declarations t)
  pub arrays : x.lists.arrays ≡ arrays_in (declarations t)
  pub messages : x.lists.messages ≡ map message_of t.messages
  pub routines : x.lists.routines ≡ map (entry_of (shape_of d).records (sizes t)) (outlines t)
  pub events : x.lists.events ≡ events d t
  pub code : AllStand (pools_of x.lists) x.code (all_code (shape_of d).records (sizes t) (outlines t))
