use Rattle.std.proofs.Common.{◌++◌, ap, sym, ◌∙◌, ℕ}
use Rattle.std.specs.Prelude.{Bool, false, slice_index_or, if◌then◌else◌, List, [], ◌∷◌}
use Rattle.cse_edit.proofs.Places.{one_more}
use Rattle.cse_edit.proofs.items.marked_places.Goals as goal

pub marks-preserved : goal.marks-preserved
marks-preserved c =
    let f : ℕ → Bool = λ i. slice_index_or c.args.marks.now i false in
    c.in_ok-add_written.ensures ∙ (ap (λ (l : List ℕ). l ++ (if f c.marks.item then c.marks.item ∷ [] else [])) c.marks.invariant ∙ sym (one_more f c.marks.item))
