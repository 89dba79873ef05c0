-- What the declarations and messages of a typed source say, as entries of an image.
use Rattle.std.specs.Prelude.{ℕ, ℤ, List, [], ◌∷◌, length, map, replicate, Option, Some, None}
use Rattle.std.specs.List.{flat_map}
use Rattle.cse_dict.specs.Keys.{kept_name}
use Rattle.cse_image_parts.specs.declared.entries.GlobalKind.TheVariants as kinds
use Rattle.cse_image_parts.specs.declared.entries.GlobalVariable.{GlobalVariable}
use Rattle.cse_image_parts.specs.Image.{ArrayLists, MessageLists}
use Rattle.cse_logic_tree.specs.Typed.{Whole, Dimension, Sized, Rows, Array, Function, Declaration, Numeric, Alpha, Array', Function', MessageEntry}

-- ---- globals, in order of the source

abbrev pub number_global : GlobalVariable
number_global = record { kind = kinds.Number; length = 0 }

abbrev pub text_global : ℕ → GlobalVariable
text_global n = record { kind = kinds.Text; length = n }

abbrev pub globals_of : Declaration → List GlobalVariable
globals_of (Numeric names) = replicate (length names) number_global
globals_of (Alpha digits size names) = replicate (length names) (text_global size)
globals_of (Array' array) = []
globals_of (Function' function) = []

abbrev pub globals_in : List Declaration → List GlobalVariable
globals_in ds = flat_map globals_of ds

-- ---- arrays, their names in upper case

abbrev pub size_of : Dimension → ℕ
size_of (Sized digits size) = size
size_of (Rows name set one_more size) = size

abbrev pub cell_of : Whole → ℤ
cell_of x = x.value

abbrev pub array_of : Array → ArrayLists
array_of x = record { saved = x.saved; dimensions = map size_of x.dimensions; name = kept_name x.name.text; cells = map cell_of x.cells }

abbrev pub arrays_of : Declaration → List ArrayLists
arrays_of (Numeric names) = []
arrays_of (Alpha digits size names) = []
arrays_of (Array' array) = array_of array ∷ []
arrays_of (Function' function) = []

abbrev pub arrays_in : List Declaration → List ArrayLists
arrays_in ds = flat_map arrays_of ds

-- ---- messages

abbrev pub message_of : MessageEntry → MessageLists
message_of x = record { number = x.number; summary = x.summary; text = x.text }

-- ---- functions

abbrev pub functions_of : Declaration → List Function
functions_of (Numeric names) = []
functions_of (Alpha digits size names) = []
functions_of (Array' array) = []
functions_of (Function' function) = function ∷ []

abbrev pub functions_in : List Declaration → List Function
functions_in ds = flat_map functions_of ds
