use Rattle.std.proofs.Common.{◌≡◌, ◌∙◌, ℕ, List, length, refl, ap, subst}
use Rattle.std.specs.Prelude.{IfOk}
use Rattle.cse_logic_tree.specs.Typed as typed
use Rattle.cse_edit.specs.Items.{written_by_tree}
use Rattle.cse_edit.specs.Marks.{marked}
use Rattle.cse_edit.proofs.Places.{marks_tell}
use Rattle.cse_edit.proofs.items.written.Goals as goal

pub returns : goal.returns
returns c =
    let t = typed.tree c.args.tree.now in
    let n = length c.args.marks.now in
    let same = marks_tell t n n c.source.new.marks (c.source.ensures ∙ ap (λ marks. marked marks (written_by_tree t)) c.requires.none) refl in
    subst (λ (is : List ℕ). IfOk c.marked_places.result (λ v. v.items ≡ is)) same c.marked_places.ensures
