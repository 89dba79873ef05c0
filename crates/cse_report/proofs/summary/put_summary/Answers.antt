use Rattle.std.proofs.Common.{List, ℕ, ◌++◌}
use Rattle.std.specs.Prelude.{codes, map}
use Rattle.cse_image_parts.specs.Image.{message_lists}
use Rattle.cse_value.specs.Gathering.{line}
use Rattle.cse_value.proofs.GatherLaws.{Puts-then}
use Rattle.cse_report.specs.Listing.{number_line, count_lines, summary}
use Rattle.cse_report.proofs.summary.put_summary.Goals as goal

pub returns : goal.returns
unfolding summary
returns g c =
    let first : List ℕ = line (codes "SUMMARY") in
    let cases = number_line (codes "cases ") c.args.cases in
    let lines = number_line (codes "lines ") c.args.lines in
    let unseen = number_line (codes "unseen ") c.args.unseen in
    let counts = count_lines (map message_lists c.args.messages.now) c.args.counts.now in
    let last : List ℕ = line (codes "END") in
    Puts-then _ _ _ ((((first ++ cases) ++ lines) ++ unseen) ++ counts) last
    (Puts-then _ _ _ (((first ++ cases) ++ lines) ++ unseen) counts
    (Puts-then _ _ _ ((first ++ cases) ++ lines) unseen
    (Puts-then _ _ _ (first ++ cases) lines (Puts-then _ _ _ first cases c.put_line.ensures c.put_number.ensures) c.put_number-2.ensures) c.put_number-3.ensures)
    c.put_counts.ensures)
    c.put_line-2.ensures
