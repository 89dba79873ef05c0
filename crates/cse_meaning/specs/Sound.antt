-- The programs of a sound source are typed, and keep to the costs of the source.
use Rattle.std.specs.Prelude.{◌≡◌, ◌≤◌, ℕ, List, length, Some, slice_get}
use Rattle.cse_image_parts.specs.Image.{Image}
use Rattle.cse_image.specs.Spelling.{Fits}
use Rattle.cse_dict.specs.Dictionary.{DictionaryText, shape_of}
use Rattle.cse_dict.specs.Sound.{IsSound as IsSoundDictionary}
use Rattle.cse_syntax_tree.specs.Tree as syntax
use Rattle.cse_syntax_tree.specs.Word.{Word}
use Rattle.cse_syntax_tree.specs.Grammar.{IsSource}
use Rattle.cse_logic_tree.specs.Typed.{Tree}
use Rattle.cse_logic_names.specs.MessageFile.{MessageText}
use Rattle.cse_logic_names.specs.OrderFile.{IsOrder}
use Rattle.cse_logic_names.specs.WellTyped.{IsTypedAs}
use Rattle.cse_verify.specs.Bound.{bound}
use Rattle.cse_compile.specs.Order.{edit_order}
use Rattle.cse_compile.specs.Outline.{Outline}
use Rattle.cse_code_typing.specs.Order.{NamesEachOnce}
use Rattle.cse_compile.specs.Program.{outlines}
use Rattle.cse_compile.specs.Compiled.{IsSound}
use Rattle.cse_meaning.specs.Checked.{IsCompiled}
use Rattle.cse_meaning.specs.Cost.{cost_of}

-- some order file names these records
abbrev pub IsOrdered : DictionaryText → List ℕ → Type 0
IsOrdered d named = (lines : List (List ℕ)) × IsOrder d lines named

-- the edit order of an order file names each record of the dictionary once
abbrev pub OrdersNameAll : Type 0
OrdersNameAll =
    (d : DictionaryText) (named : List ℕ) → IsOrdered d named
    → NamesEachOnce (length (shape_of d).records) (edit_order (length (shape_of d).records) named)

-- Each program of a sound source is typed: the dictionary is sound, the source is of the grammar with at most 64 parentheses and statements
-- open at once, it keeps each rule as this typed tree, and the named records are those of an order file.
abbrev pub SourcesAreSound : Type 0
SourcesAreSound =
    (d : DictionaryText) (messages : List MessageText) (named : List ℕ) (source : syntax.Tree) (words : List Word) (t : Tree)
    → IsSoundDictionary d
    → IsSource 64 source words
    → IsTypedAs d messages source t
    → IsOrdered d named
    → IsSound d named t

-- the same, where nothing is known of the source but that it is of the grammar
abbrev pub GrammarSuffices : Type 0
GrammarSuffices =
    (d : DictionaryText) (messages : List MessageText) (named : List ℕ) (source : syntax.Tree) (words : List Word) (t : Tree)
    → IsSoundDictionary d
    → ∥ IsSource 64 source words ∥₁
    → IsTypedAs d messages source t
    → IsOrdered d named
    → ∥ IsSound d named t ∥₁

-- the bound of each routine of a program that has a spelling is at most its cost
abbrev pub BoundsAreCostsWhereSpelled : Type 0
BoundsAreCostsWhereSpelled =
    (d : DictionaryText) (messages : List MessageText) (named : List ℕ) (source : syntax.Tree) (words : List Word) (t : Tree) (x : Image)
    → IsCompiled d messages named source words t x
    → Fits x
    → (r : ℕ) (o : Outline)
    → slice_get (outlines t) r ≡ Some o
    → bound x r ≤ cost_of d t r
