use Rattle.std.proofs.Common.{◌≡◌, ◌++◌, ◌∷◌, [], List, ap, ◌∙◌}
use Rattle.std.specs.Prelude.{replicate}
use Rattle.std.proofs.lemmas.List.{replicate_more}
use Rattle.cse_report.specs.Frequency.{Table}
use Rattle.cse_report.proofs.frequencies.Frequencies.new.Goals as goal

pub items-preserved : goal.items-preserved
items-preserved c =
    c.in_ok-push.ensures.items
    ∙ (ap (λ (l : List Table). l ++ c.new.result ∷ []) c.items.invariant
    ∙ (ap (λ (t : Table). replicate c.items._item [] ++ t ∷ []) c.new.ensures ∙ replicate_more c.items._item []))
