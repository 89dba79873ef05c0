-- What a source is that was checked.
use Rattle.std.specs.Prelude.{ℕ, List}
use Rattle.cse_dict.specs.Dictionary.{DictionaryText}
use Rattle.cse_syntax_tree.specs.Grammar.{IsSource, spell_tree}
use Rattle.cse_logic_tree.specs.Typed.{Tree}
use Rattle.cse_logic_tree.specs.Erase.{erase_tree}
use Rattle.cse_logic_names.specs.MessageFile.{MessageText}
use Rattle.cse_logic_names.specs.OrderFile.{IsOrderOf}
use Rattle.cse_logic_names.specs.Texts.{AreTexts, AreUtf8}
use Rattle.cse_logic_names.specs.WellTyped.{IsWell}

-- a typed tree, and the dictionary, the messages of a message file and the records of an order file that it was made for
pub record Checked : Type 0 where
  pub dictionary : DictionaryText
  pub messages : List MessageText
  pub order : List ℕ
  pub tree : Tree

-- the tree keeps each rule of 40 to 49, and it is one of a source, with at most 64 parentheses and statements open at once; its texts are
-- UTF-8, and those of the messages have no character below U+0020
pub record IsChecked (c : Checked) : Type 0 where
  pub well : IsWell c.dictionary c.messages c.tree
  pub source : ∥ IsSource 64 (erase_tree c.tree) (spell_tree (erase_tree c.tree)) ∥₁
  pub ordered : IsOrderOf c.dictionary c.order
  pub utf8 : ∥ AreUtf8 (spell_tree (erase_tree c.tree)) ∥₁
  pub texts : AreTexts c.messages
