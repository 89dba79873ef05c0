use Rattle.std.proofs.Common.{◌∙◌}
use Rattle.std.proofs.lemmas.Result.{err_from_is_err_and}
use Rattle.cse_syntax.specs.declared.source.TheConstants.{LIMIT}
use Rattle.cse_syntax_tree.specs.Word.{words}
use Rattle.cse_syntax_tree.specs.Tree.{tree}
use Rattle.cse_syntax.proofs.SoundSource.{source_sound}
use Rattle.cse_syntax.proofs.Whole.{tree_is}
use Rattle.cse_syntax.proofs.source.read.Goals as goal

pub returns-in_err-tree-in-None-clause-tree : goal.returns-in_err-tree-in-None-clause-tree
returns-in_err-tree-in-None-clause-tree c =
    let whole = tree_is LIMIT c.args.text.now c.in_ok-found.found.tokens.items (rw c.in-None.is at c.in_ok-found.ensures).0 (rw c.in-None.is at c.in_ok-found.ensures).1 in
    let p = err_from_is_err_and c.from_residual-in_err-tree-in-None.result c.from_residual-in_err-tree-in-None.ensures.1 in
    rw (p.1, p.2, whole) (rw c.deref.ensures.value at c.in_err-tree-in-None.ensures)

pub returns-in-None-clause-tree : goal.returns-in-None-clause-tree
returns-in-None-clause-tree c =
    tree_is LIMIT c.args.text.now c.in_ok-found.found.tokens.items (rw c.in-None.is at c.in_ok-found.ensures).0 (rw c.in-None.is at c.in_ok-found.ensures).1 ∙ (rw c.deref.ensures.value at c.in_ok-tree-in-None.ensures)

pub invariant_of-result : goal.invariant_of-result
invariant_of-result c = record {
  is_source = ∣ source_sound LIMIT (words c.in_ok-found.found.tokens.items) (tree c.in_ok-tree-in-None.tree) (rw c.deref.ensures.value at c.in_ok-tree-in-None.ensures) ∣₁;
  is_numbered = ∣ (rw c.in-None.is at c.in_ok-found.ensures).1 ∣₁;
}
