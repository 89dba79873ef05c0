use Rattle.std.specs.Prelude.{Some}
use Rattle.std.proofs.Common.{◌≡◌, ap, ◌∙◌, sym, subst}
use Rattle.cse_logic_names.specs.WellTyped.{IsTypedAs}
use Rattle.cse_types.specs.JudgeTree.{typed_of}
use Rattle.cse_logic_expressions.proofs.Right.{For}
use Rattle.cse_types.proofs.TreeRight.{tree_right}
use Rattle.cse_types.proofs.TreeComplete.{tree_complete}
use Rattle.cse_types.proofs.judged_laws.sources_are_judged.Goals as goal

pub returns : goal.returns
returns c = record {
  sound = λ d messages x t e. subst (For (IsTypedAs d messages x)) e (tree_right d messages x);
  complete = λ d messages x t h. ap (typed_of d messages) (sym h.erased) ∙ tree_complete d messages t h.well;
}
