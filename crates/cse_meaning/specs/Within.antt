-- Which sources are within the limits of the format.
use Rattle.std.specs.Prelude.{◌≤◌, ℕ, List, length, IsTrue}
use Rattle.std.specs.List.{AllByRecursion}
use Rattle.cse_image_parts.specs.Fields.{cells_in, product}
use Rattle.cse_image_parts.specs.Image.{ArrayLists}
use Rattle.cse_image_parts.specs.Limits.{most_arrays, most_cells, most_dimensions, most_routines}
use Rattle.cse_image_parts.specs.Placeholders.{has_few_placeholders}
use Rattle.cse_image_parts.specs.Texts.{is_short}
use Rattle.cse_logic_tree.specs.Typed.{Function, MessageEntry, Tree}
use Rattle.cse_compile.specs.Tables.{arrays_in, functions_in}
use Rattle.cse_compile.specs.Program.{declarations, outlines}
use Rattle.cse_meaning.specs.Totals.{tokens_of}

-- the tokens of a source that never lacks room for its code
abbrev pub most_tokens : ℕ
most_tokens = 60000

-- the greatest size of an array in a direction
abbrev pub most_size : ℕ
most_size = 65535

-- the parameters of a function, beside its result
abbrev pub most_parameters : ℕ
most_parameters = 254

-- at most three dimensions, each of at most 65,535, and not more starting cells than cells
pub record IsArrayWithin (x : ArrayLists) : Type 0 where
  pub dimensions : length x.dimensions ≤ most_dimensions
  pub sizes : AllByRecursion (λ size. size ≤ most_size) x.dimensions
  pub cells : length x.cells ≤ product x.dimensions

-- at most 4,096 arrays, with 1,000,000 cells in all
pub record AreArraysWithin (xs : List ArrayLists) : Type 0 where
  pub count : length xs ≤ most_arrays
  pub each : AllByRecursion IsArrayWithin xs
  pub cells : cells_in xs ≤ most_cells

abbrev pub IsFunctionWithin : Function → Type 0
IsFunctionWithin f = length f.parameters ≤ most_parameters

-- at most 255 characters, and 16 placeholders
pub record IsMessageWithin (x : MessageEntry) : Type 0 where
  pub short : IsTrue (is_short x.text)
  pub few : IsTrue (has_few_placeholders x.text)

-- The source has at most 60,000 tokens, and at most 4,096 functions and parts of procedures that have a statement; and no array, no function
-- and no message of it is beyond a limit.
pub record IsWithin (t : Tree) : Type 0 where
  pub tokens : tokens_of t ≤ most_tokens
  pub routines : length (outlines t) ≤ most_routines
  pub arrays : AreArraysWithin (arrays_in (declarations t))
  pub functions : AllByRecursion IsFunctionWithin (functions_in (declarations t))
  pub messages : AllByRecursion IsMessageWithin t.messages
