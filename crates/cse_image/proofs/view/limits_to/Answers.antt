use Rattle.std.proofs.Common.{ℕ, ◌+◌, List, [], ◌∷◌, ◌++◌, ap, sym, ◌∙◌, add-one}
use Rattle.cse_image_parts.proofs.UpgradeLaws.{one_to_next}
use Rattle.cse_image.proofs.view.limits_to.Goals as goal

pub loop-i-preserved : goal.loop-i-preserved
loop-i-preserved c = c.in_ok-push.ensures.items ∙ ap (λ (xs : List ℕ). xs ++ (c.loop-i.i + 1) ∷ []) c.loop-i.invariant ∙ sym (rw add-one (rw add-one at (one_to_next c.loop-i.i)))
