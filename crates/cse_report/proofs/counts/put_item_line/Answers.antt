use Rattle.std.proofs.Common.{◌≡◌, List, ℕ, [], ◌∷◌, ◌++◌, ap, ◌∙◌}
use Rattle.std.specs.Prelude.{codes}
use Rattle.std.specs.Fmt.{decimal}
use Rattle.cse_value.specs.Gathering.{line}
use Rattle.cse_value.proofs.GatherLaws.{Puts-then, Puts-as}
use Rattle.cse_report.specs.Frequency.{item_line}
use Rattle.cse_report.proofs.PutLaws.{Puts-line}
use Rattle.cse_report.proofs.counts.put_item_line.Goals as goal

pub returns : goal.returns
returns g c =
    let word : List ℕ = codes "ITEM " in
    let a = c.as_bytes.result.now in
    let n = c.as_bytes-2.result.now in
    let e : line (((word ++ a) ++ (32 ∷ [])) ++ n) ≡ item_line c.args.name.now c.args.counts.now =
    ap (λ (l : List ℕ). line (((word ++ l) ++ (32 ∷ [])) ++ n)) c.as_bytes.ensures.value
    ∙ ap (λ (l : List ℕ). line (((word ++ c.args.name.now) ++ (32 ∷ [])) ++ l)) (c.as_bytes-2.ensures.value ∙ (c.format.ensures.text ∙ ap decimal c.total_of.ensures)) in
    Puts-as _ _ _ _ e
    (Puts-line _ _ _ ((word ++ a) ++ (32 ∷ [])) n
    (Puts-then _ _ _ (word ++ a) (32 ∷ []) (Puts-then _ _ _ word a c.put.ensures c.put-2.ensures) c.put-3.ensures) c.put_line.ensures)
