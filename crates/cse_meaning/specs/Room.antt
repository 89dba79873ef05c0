-- The law: only a source that is beyond a limit lacks room.
use Rattle.std.specs.Prelude.{ℕ, List}
use Rattle.cse_dict.specs.Dictionary.{DictionaryText, shape_of}
use Rattle.cse_dict.specs.Sound.{IsSound as IsSoundDictionary}
use Rattle.cse_syntax_tree.specs.Tree as syntax
use Rattle.cse_syntax_tree.specs.Word.{Word}
use Rattle.cse_syntax_tree.specs.Grammar.{IsSource}
use Rattle.cse_logic_tree.specs.Typed.{Tree}
use Rattle.cse_logic_names.specs.MessageFile.{MessageText}
use Rattle.cse_logic_names.specs.WellTyped.{IsTypedAs}
use Rattle.cse_compile.specs.Compiled.{HasNoRoom}
use Rattle.cse_meaning.specs.Sound.{IsOrdered}
use Rattle.cse_logic_names.specs.Texts.{AreUtf8, AreTexts}
use Rattle.cse_meaning.specs.Given.{ShapeFits}
use Rattle.cse_meaning.specs.Within.{IsWithin}

-- Where the dictionary is sound, the source is of the grammar with at most 64 parentheses and statements open at once, it keeps each rule as
-- this typed tree, the named records are those of an order file, and no limit is passed, a program of the source has a spelling.
abbrev pub LargeAlone : Type 0
LargeAlone =
    (d : DictionaryText) (messages : List MessageText) (named : List ℕ) (source : syntax.Tree) (words : List Word) (t : Tree)
    → IsSoundDictionary d
    → ShapeFits (shape_of d)
    → ∥ IsSource 64 source words ∥₁
    → AreUtf8 words
    → AreTexts messages
    → IsTypedAs d messages source t
    → IsOrdered d named
    → IsWithin t
    → HasNoRoom d named t
    → ⊥
