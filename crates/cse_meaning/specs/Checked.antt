-- What is proved of the program of a sound source.
use Rattle.std.specs.Prelude.{◌≡◌, ℕ, false, List, Some, slice_get}
use Rattle.cse_image_parts.specs.Image.{Image, RoutineLists}
use Rattle.cse_dict.specs.Dictionary.{DictionaryText, shape_of}
use Rattle.cse_dict.specs.Sound.{IsSound}
use Rattle.cse_syntax_tree.specs.Tree as syntax
use Rattle.cse_syntax_tree.specs.Word.{Word}
use Rattle.cse_syntax_tree.specs.Grammar.{IsSource}
use Rattle.cse_logic_tree.specs.Typed.{Tree}
use Rattle.cse_logic_names.specs.MessageFile.{MessageText}
use Rattle.cse_logic_names.specs.WellTyped.{IsTypedAs}
use Rattle.cse_code_typing.specs.Shapes as image
use Rattle.cse_code_typing.specs.Typed.{IsTypedRoutine}
use Rattle.cse_verify.specs.Bound.{bound, bounds_below}
use Rattle.cse_compile.specs.Outline.{Outline}
use Rattle.cse_compile.specs.Program.{IsProgramOf, entry_of, outlines, setting_for, sizes}
use Rattle.cse_meaning.specs.Fit.{Spot, BlockFits}
use Rattle.cse_meaning.specs.Steps.{routine_steps}
use Rattle.cse_meaning.specs.Emitted.{spot_of}

-- The source is sound for the dictionary and the messages of a message file, has at most 64 parentheses and statements open at once, and
-- the program is its program.
pub record IsCompiled (d : DictionaryText) (messages : List MessageText) (named : List ℕ) (source : syntax.Tree) (words : List Word) (t : Tree) (x : Image) : Type 0 where
  pub dictionary : IsSound d
  pub grammar : IsSource 64 source words
  pub typed : IsTypedAs d messages source t
  pub shape : shape_of d ≡ image.shape_of x
  pub program : IsProgramOf d named t x

-- where a routine begins
abbrev pub spot_for : DictionaryText → Tree → Image → ℕ → Outline → Spot
spot_for d t x r o = spot_of (shape_of d) x r (entry_of (shape_of d).records (sizes t) o) (setting_for (shape_of d).records (sizes t) o)

-- the statements of each routine fit the tables of the program
abbrev pub StatementsFit : Type 0
StatementsFit =
    (d : DictionaryText) (messages : List MessageText) (named : List ℕ) (source : syntax.Tree) (words : List Word) (t : Tree) (x : Image)
    → IsCompiled d messages named source words t x
    → (r : ℕ) (o : Outline) → slice_get (outlines t) r ≡ Some o → BlockFits (spot_for d t x r o) 64 false o.body

abbrev pub RoutinesAreTyped : Type 0
RoutinesAreTyped =
    (d : DictionaryText) (messages : List MessageText) (named : List ℕ) (source : syntax.Tree) (words : List Word) (t : Tree) (x : Image)
    → IsCompiled d messages named source words t x
    → (r : ℕ) (y : RoutineLists) → slice_get x.lists.routines r ≡ Some y → IsTypedRoutine (shape_of d) x r y

-- the bound of each routine is the steps that its statements tell
abbrev pub RoutinesAreCounted : Type 0
RoutinesAreCounted =
    (d : DictionaryText) (messages : List MessageText) (named : List ℕ) (source : syntax.Tree) (words : List Word) (t : Tree) (x : Image)
    → IsCompiled d messages named source words t x
    → (r : ℕ) (o : Outline)
    → slice_get (outlines t) r ≡ Some o
    → bound x r ≡ routine_steps (bounds_below x r) (setting_for (shape_of d).records (sizes t) o) o.body
