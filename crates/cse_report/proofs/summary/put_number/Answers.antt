use Rattle.std.proofs.Common.{◌≡◌, List, ℕ, ◌++◌, ap, ◌∙◌}
use Rattle.cse_value.specs.Gathering.{line}
use Rattle.cse_value.proofs.GatherLaws.{Puts-as}
use Rattle.cse_report.specs.Listing.{number_line}
use Rattle.cse_report.proofs.PutLaws.{Puts-line}
use Rattle.cse_report.proofs.summary.put_number.Goals as goal

pub returns : goal.returns
returns g c =
    let n = c.as_bytes.result.now in
    let e : line (c.args.word.now ++ n) ≡ number_line c.args.word.now c.args.number = ap (λ (l : List ℕ). line (c.args.word.now ++ l)) (c.as_bytes.ensures.value ∙ c.format.ensures.text) in
    Puts-as _ _ _ _ e (Puts-line _ _ _ c.args.word.now n c.put.ensures c.put_line.ensures)
