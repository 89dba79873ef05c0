-- Texts that are sound together are refused by a limit or for want of memory alone.
use Rattle.std.proofs.Common.{◌≡◌, ◌⊎◌, inl, inr, ℕ, true, false, List, Some, None, refl, sym, ap, ◌∙◌, subst}
use Rattle.std.specs.Prelude.{◌||◌, nat_eq, IsTrue, Result, Ok, Err, IfErr}
use Rattle.std.proofs.lemmas.Option.{same_Some, none-some}
use Rattle.std.proofs.lemmas.Bool.{true≢false}
use Rattle.cse_dict.specs.Dictionary.{DictionaryText}
use Rattle.cse_syntax_tree.specs.Tree as syntax
use Rattle.cse_syntax.specs.Source.{IsSourceText, said}
use Rattle.cse_syntax.specs.Text.{Piece}
use Rattle.cse_syntax_tree.specs.Grammar.{IsSource}
use Rattle.cse_syntax.proofs.Whole.{one_tree}
use Rattle.cse_logic_tree.specs.Typed.{Tree}
use Rattle.cse_logic_names.specs.MessageFile.{MessageText, file_lines, messages_behind}
use Rattle.cse_logic_names.specs.OrderFile.{IsOrder}
use Rattle.cse_logic_names.specs.WellTyped.{IsTypedAs}
use Rattle.cse_meaning.specs.declared.error.BuildFault.{BuildFault}
use Rattle.cse_meaning.specs.Fault.{IsReason, at_no_place, out_of_memory}
use Rattle.cse_meaning.specs.Build.{AreSound, AreEntries, AreNamed, IsFault, IsFaultBehind, IsLimitFault, IsLogic, IsLogicFault, IsMessageFault, IsOrderFault, IsSourceFault, IsTextFault}

-- a text has one tree
same_source : (text : List ℕ) (x y : syntax.Tree) → IsSourceText 64 text x → IsSourceText 64 text y → x ≡ y
same_source text x y h k =
    one_tree 64 (said h.0) x y h.2 (subst (λ (ps : List Piece). IsSource 64 y (said ps)) (same_Some k.0 h.0 (sym k.1 ∙ h.1)) k.2)

reason_at : (n : ℕ) (e : BuildFault) → e ≡ at_no_place n → IsTrue (nat_eq n 64 || (nat_eq n 67 || nat_eq n 90)) → IsReason e
reason_at n e is h = subst (λ (f : BuildFault). IsReason f) (sym is) h

module _ (d : DictionaryText) (entries : List MessageText) (logic : List ℕ) (source : syntax.Tree) (t : Tree) (h : IsLogic d entries logic source t) (e : BuildFault) where
  by_limit : (t : Tree) → IsLimitFault d t e → IsReason e
  by_limit t (inl k) = reason_at 64 e k.0 refl
  by_limit t (inr k) = reason_at 67 e k.0 refl

  by_source : IsSourceFault d entries source e → IsReason e
  by_source (inl k) = absurd (k.2 t h.typed)
  by_source (inr k) = by_limit k.0 k.2

  by_text : IsTextFault logic e → ⊥
  by_text (inl k) = true≢false (sym h.utf8 ∙ k.1)
  by_text (inr k) = k.2 source h.text

  by_logic : IsLogicFault d entries logic e → IsReason e
  by_logic (inl k) = absurd (by_text k)
  by_logic (inr k) = by_source (subst (λ (x : syntax.Tree). IsSourceFault d entries x e) (same_source logic k.0 source k.1 h.text) k.2)

module _ (d : DictionaryText) (logic messages order : List ℕ) (h : AreSound d logic messages order) (e : BuildFault) where
  by_order : IsOrderFault d order e → ⊥
  by_order k = k.1.wrong k.1.after h.named (subst (λ (ls : List (List ℕ)). IsOrder d ls h.named) k.1.lines_are h.named_are)

  by_behind : (found : List MessageText) → AreEntries messages found → IsFaultBehind d found logic order e → IsReason e
  by_behind found is (inl k) = absurd (by_order k)
  by_behind found is (inr k) = by_logic d h.entries logic h.source h.tree h.logic_is e (subst (λ (es : List MessageText). IsLogicFault d es logic e) (is.1 ∙ sym h.entries_are.1) k.2)

  by_messages : IsMessageFault messages e → ⊥
  by_messages k = none-some k.0 (sym h.entries_are.0 ∙ k.1)

  pub by_fault : IsFault d logic messages order e → IsReason e
  by_fault (inl is) = reason_at 90 e is refl
  by_fault (inr (inl k)) = absurd (by_messages k)
  by_fault (inr (inr k)) = by_behind k.0 k.1 k.2

pub sound_reasons : {T : Type 0} (d : DictionaryText) (logic messages order : List ℕ) (r : Result T BuildFault) → IfErr r (IsFault d logic messages order) → AreSound d logic messages order → IfErr r IsReason
sound_reasons d logic messages order (Ok x) f h = tt
sound_reasons d logic messages order (Err e) f h = by_fault d logic messages order h e f
