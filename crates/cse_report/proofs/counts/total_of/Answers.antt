use Rattle.std.proofs.Common.{◌+◌, ◌<◌, min, length, subst, ap, ◌∙◌}
use Rattle.cse_report.specs.Counts.{most_count}
use Rattle.cse_report.proofs.PutLaws.{total-next}
use Rattle.cse_report.proofs.counts.total_of.Goals as goal

pub values-preserved : goal.values-preserved
values-preserved c =
    let r = c.get-count.result in
    let within : c.values.i < length c.args.counts.now = subst (λ n. c.values.i < n) c.len-i-end.ensures c.values-test.true in
    c.saturating_add-total.ensures ∙ (ap (λ t. min (t + r.1) most_count) c.values.invariant ∙ total-next c.args.counts.now c.values.i r.1 r.0 within c.get-count.ensures)
