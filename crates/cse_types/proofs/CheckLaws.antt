-- What the checker's answer tells.
use Rattle.std.proofs.Common.{◌≡◌, ℕ, true, false, List, Option, Some, None, refl, sym, ap, ◌∙◌, subst}
use Rattle.std.proofs.lemmas.Bool.{false≢true}
use Rattle.std.proofs.Math.Logic.{∥∥₁_map}
use Rattle.cse_dict.specs.Dictionary.{DictionaryText}
use Rattle.cse_syntax_tree.specs.Word.{Word}
use Rattle.cse_syntax_tree.specs.Grammar.{IsSource, spell_tree}
use Rattle.cse_syntax_tree.specs.Tree as syntax
use Rattle.cse_logic_tree.specs.Typed.{Tree}
use Rattle.cse_logic_names.specs.MessageFile.{MessageText}
use Rattle.cse_logic_names.specs.WellTyped.{IsTypedAs}
use Rattle.cse_logic_names.specs.OrderFile.{IsOrderOf}
use Rattle.cse_logic_names.specs.Texts.{AreTexts, AreUtf8}
use Rattle.cse_types.specs.Checked.{IsChecked}
use Rattle.cse_logic_names.specs.Walk.{is_there}

-- the words of a tree of a source are those that it spells
pub its_words : (x : syntax.Tree) (ws : List Word) → ∥ IsSource 64 x ws ∥₁ → ∥ IsSource 64 x (spell_tree x) ∥₁
its_words x ws t = ∥∥₁_map t (λ h. (h.0, h.1, refl))

-- a tree that was found and one that is right are the same
pub same_tree : (t u : Tree) (o : Option Tree) → Some t ≡ o → o ≡ Some u → t ≡ u
same_tree t u o h k = ap (or_this t) (h ∙ k)
  where
    or_this : Tree → Option Tree → Tree
    or_this z None = z
    or_this z (Some y) = y

-- no tree, and one that is right
pub no_tree : (o : Option Tree) (t : Tree) → o ≡ None → o ≡ Some t → ⊥
no_tree o t h k = false≢true (ap is_there (sym h ∙ k))

pub checked_so : (d : DictionaryText) (messages : List MessageText) (order : List ℕ) (x : syntax.Tree) (ws : List Word) (t : Tree) → IsTypedAs d messages x t → ∥ IsSource 64 x ws ∥₁ → IsOrderOf d order
    → ∥ AreUtf8 (spell_tree x) ∥₁ → AreTexts messages
    → IsChecked (record { dictionary = d; messages = messages; order = order; tree = t })
checked_so d messages order x ws t h p q utf8 texts = record {
  well = h.well;
  source = subst (λ (y : syntax.Tree). ∥ IsSource 64 y (spell_tree y) ∥₁) (sym h.erased) (its_words x ws p);
  ordered = q;
  utf8 = subst (λ (y : syntax.Tree). ∥ AreUtf8 (spell_tree y) ∥₁) (sym h.erased) utf8;
  texts = texts;
}
