-- The tree that a source is judged to be, and the one that is right.
use Rattle.std.proofs.Common.{◌≡◌, List, Some, sym, ap, ◌∙◌, subst}
use Rattle.cse_dict.specs.Dictionary.{DictionaryText}
use Rattle.cse_syntax_tree.specs.Tree as syntax
use Rattle.cse_logic_tree.specs.Typed.{Tree}
use Rattle.cse_logic_names.specs.MessageFile.{MessageText}
use Rattle.cse_logic_names.specs.WellTyped.{IsTypedAs}
use Rattle.cse_types.specs.JudgeTree.{typed_of}
use Rattle.cse_logic_expressions.proofs.Right.{For}
use Rattle.cse_types.proofs.TreeRight.{tree_right}
use Rattle.cse_types.proofs.TreeComplete.{tree_complete}

pub typed_right : (d : DictionaryText) (messages : List MessageText) (x : syntax.Tree) (t : Tree) → typed_of d messages x ≡ Some t → IsTypedAs d messages x t
typed_right d messages x t e = subst (For (IsTypedAs d messages x)) e (tree_right d messages x)

pub typed_only : (d : DictionaryText) (messages : List MessageText) (x : syntax.Tree) (t : Tree) → IsTypedAs d messages x t → typed_of d messages x ≡ Some t
typed_only d messages x t h = ap (typed_of d messages) (sym h.erased) ∙ tree_complete d messages t h.well
