use Rattle.std.proofs.Common.{◌≡◌, List, ℕ, ◌++◌, ap, ◌∙◌}
use Rattle.std.specs.Prelude.{codes}
use Rattle.cse_image_parts.specs.Image.{message_lists}
use Rattle.cse_value.specs.Gathering.{line}
use Rattle.cse_value.proofs.GatherLaws.{Puts-then, Puts-as}
use Rattle.cse_report.specs.Listing.{number_word, count_line}
use Rattle.cse_report.proofs.PutLaws.{Puts-line}
use Rattle.cse_report.proofs.summary.put_count.Goals as goal

pub returns : goal.returns
returns g c =
    let word : List ℕ = codes "message " in
    let m = message_lists c.args.message.now in
    let text = c.as_bytes.result.now in
    let front = (word ++ number_word c.from.result) ++ number_word c.args.count in
    let e : line (front ++ text) ≡ count_line m c.args.count =
    ap (λ (l : List ℕ). line (front ++ l)) c.as_bytes.ensures.value ∙ ap (λ n. line (((word ++ number_word n) ++ number_word c.args.count) ++ m.text)) c.from.ensures in
    Puts-as _ _ _ _ e
    (Puts-line _ _ _ front text
    (Puts-then _ _ _ (word ++ number_word c.from.result) (number_word c.args.count) (Puts-then _ _ _ word (number_word c.from.result) c.put.ensures c.put_word.ensures) c.put_word-2.ensures) c.put_line.ensures)
