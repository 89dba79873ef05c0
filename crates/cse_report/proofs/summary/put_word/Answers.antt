use Rattle.std.proofs.Common.{◌≡◌, List, ℕ, [], ◌∷◌, ◌++◌, ap, ◌∙◌}
use Rattle.cse_value.proofs.GatherLaws.{Puts-then, Puts-as}
use Rattle.cse_report.specs.Listing.{number_word}
use Rattle.cse_report.proofs.summary.put_word.Goals as goal

pub returns : goal.returns
returns g c =
    let n = c.as_bytes.result.now in
    let e : n ++ 32 ∷ [] ≡ number_word c.args.number = ap (λ (l : List ℕ). l ++ 32 ∷ []) (c.as_bytes.ensures.value ∙ c.format.ensures.text) in
    Puts-as _ _ _ _ e (Puts-then _ _ _ n (32 ∷ []) c.put.ensures c.put-2.ensures)
