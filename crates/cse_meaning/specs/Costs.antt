-- Which sources keep to the limit on steps, by their tokens.
use Rattle.std.specs.Prelude.{◌≤◌, ◌<◌, ℕ, ◌*◌, List, length, slice_get}
use Rattle.std.specs.List.{sum_by}
use Rattle.std.specs.Option.{option_map_or}
use Rattle.cse_value.specs.declared.shape.ItemShape.{ItemShape}
use Rattle.cse_value.specs.Occurrences.{most_occurrences}
use Rattle.cse_image_parts.specs.declared.entries.EventCode.{EventCode}
use Rattle.cse_image_parts.specs.declared.entries.EventCode.TheVariants as codes
use Rattle.cse_image_parts.specs.declared.entries.EventEntry.{EventEntry}
use Rattle.cse_image_parts.specs.Image.{Image}
use Rattle.cse_image.specs.Spelling.{Fits}
use Rattle.cse_dict.specs.Dictionary.{DictionaryText, shape_of}
use Rattle.cse_dict.specs.Sound.{IsSound as IsSoundDictionary}
use Rattle.cse_syntax_tree.specs.Tree as syntax
use Rattle.cse_syntax_tree.specs.Word.{Word}
use Rattle.cse_syntax_tree.specs.Grammar.{IsSource}
use Rattle.cse_logic_tree.specs.Typed.{Tree}
use Rattle.cse_logic_names.specs.MessageFile.{MessageText}
use Rattle.cse_logic_names.specs.WellTyped.{IsTypedAs}
use Rattle.cse_verify.specs.Limit.{step_limit}
use Rattle.cse_verify.specs.Bounded.{IsBounded}
use Rattle.cse_compile.specs.Program.{events, outlines}
use Rattle.cse_compile.specs.Compiled.{MayTakeLong}
use Rattle.cse_meaning.specs.Checked.{IsCompiled}
use Rattle.cse_meaning.specs.Cost.{cost_of}

-- how often an event may come in a case: one of the level or of a record once, one of an item once for each occurrence of its record that
-- the dictionary allows, one of the application never
abbrev pub most_of_item : DictionaryText → ℕ → ℕ
most_of_item d item = option_map_or (λ (i : ItemShape). most_occurrences (shape_of d).records i.owner) (slice_get (shape_of d).items item) 0

abbrev pub times_of : DictionaryText → EventCode → ℕ → ℕ
times_of d codes.ApplicationPreproc index = 0
times_of d codes.ApplicationPostproc index = 0
times_of d codes.LevelPreproc index = 1
times_of d codes.LevelPostproc index = 1
times_of d codes.RecordPreproc index = 1
times_of d codes.RecordPostproc index = 1
times_of d codes.ItemPreproc index = most_of_item d index
times_of d codes.ItemPostproc index = most_of_item d index

-- what the events of a case cost together
abbrev pub case_cost : DictionaryText → Tree → ℕ
case_cost d t = sum_by (λ (e : EventEntry). times_of d e.code e.index * cost_of d t e.routine) (events d t)

-- No cost is above the limit: not that of a function or of a procedure's part, and not that of a case's events together.
pub record KeepsCosts (d : DictionaryText) (t : Tree) : Type 0 where
  pub routines : (r : ℕ) → r < length (outlines t) → cost_of d t r ≤ step_limit
  pub case : case_cost d t ≤ step_limit

-- a program of a sound source whose costs keep to the limit is bounded
abbrev pub CheapIsBounded : Type 0
CheapIsBounded =
    (d : DictionaryText) (messages : List MessageText) (named : List ℕ) (source : syntax.Tree) (words : List Word) (t : Tree) (x : Image)
    → IsCompiled d messages named source words t x
    → Fits x
    → KeepsCosts d t
    → IsBounded x

-- no program of a sound source takes too long, unless a cost is above the limit
abbrev pub LongOnlyAtCost : Type 0
LongOnlyAtCost =
    (d : DictionaryText) (messages : List MessageText) (named : List ℕ) (source : syntax.Tree) (words : List Word) (t : Tree)
    → IsSoundDictionary d
    → ∥ IsSource 64 source words ∥₁
    → IsTypedAs d messages source t
    → MayTakeLong d named t
    → KeepsCosts d t
    → ⊥
