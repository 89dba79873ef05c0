use Rattle.std.proofs.Common.{◌≡◌, List, ℕ, [], ◌∷◌, ◌++◌, ap, ◌∙◌}
use Rattle.cse_value.specs.Field.{shown}
use Rattle.cse_value.specs.Gathering.{line}
use Rattle.cse_value.proofs.GatherLaws.{Puts-then, Puts-as}
use Rattle.cse_report.specs.Frequency.{value_line}
use Rattle.cse_report.proofs.PutLaws.{Puts-line}
use Rattle.cse_report.proofs.counts.put_value.Goals as goal

pub returns : goal.returns
returns g c =
    let a = c.as_bytes.result.now in
    let n = c.as_bytes-2.result.now in
    let e : line ((a ++ (32 ∷ [])) ++ n) ≡ value_line (c.args.value, c.args.count) =
    ap (λ (l : List ℕ). line ((l ++ (32 ∷ [])) ++ n)) (c.as_bytes.ensures.value ∙ (c.as_str.ensures.value ∙ c.show_num.ensures))
    ∙ ap (λ (l : List ℕ). line ((shown c.args.value ++ (32 ∷ [])) ++ l)) (c.as_bytes-2.ensures.value ∙ c.format.ensures.text) in
    Puts-as _ _ _ _ e (Puts-line _ _ _ (a ++ (32 ∷ [])) n (Puts-then _ _ _ a (32 ∷ []) c.put.ensures c.put-2.ensures) c.put_line.ensures)
