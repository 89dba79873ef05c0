use Rattle.std.proofs.Common.{◌++◌, ◌∷◌, [], List, ℕ, ap, ◌∙◌}
use Rattle.std.proofs.lemmas.List.{replicate_more}
use Rattle.cse_report.proofs.listing.no_counts.Goals as goal

pub counts-preserved : goal.counts-preserved
counts-preserved c = c.in_ok-push.ensures.items ∙ (ap (λ (l : List ℕ). l ++ 0 ∷ []) c.counts.invariant ∙ replicate_more c.counts._message 0)
