use Rattle.std.proofs.Common.{◌<◌, length, take, get_or, subst, sym}
use Rattle.std.specs.Prelude.{map}
use Rattle.cse_image_parts.specs.Image.{message_lists}
use Rattle.cse_value.proofs.GatherLaws.{Puts-then, Puts-as}
use Rattle.cse_report.specs.Listing.{count_line, count_lines}
use Rattle.cse_report.proofs.PutLaws.{counts-next}
use Rattle.cse_report.proofs.summary.put_counts.Goals as goal

pub messages-preserved : goal.messages-preserved
messages-preserved g c =
    let i = c.messages.i in
    let m = c.index-messages-i.result in
    let within : i < length c.args.counts.now = subst (λ n. i < n) (sym c.requires) c.messages-test.true in
    Puts-as _ _ _ _ (counts-next c.args.messages.now c.args.counts.now i m c.messages-test.true within c.index-messages-i.is)
    (Puts-then _ _ _ (count_lines (map message_lists (take i c.args.messages.now)) (take i c.args.counts.now)) (count_line (message_lists m) (get_or c.args.counts.now i 0)) c.messages.invariant c.put_count.ensures)
