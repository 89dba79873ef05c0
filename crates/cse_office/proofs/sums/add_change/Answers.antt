use Rattle.std.proofs.Common.{get_or, cond, ap, sym, ◌∙◌}
use Rattle.cse_office.specs.Changes.{no_count, with_changes}
use Rattle.cse_office.proofs.SumLaws.{with_none}
use Rattle.cse_office.proofs.sums.add_change.Goals as goal

pub returns-then-not-is_changed-clause-here : goal.returns-then-not-is_changed-clause-here
returns-then-not-is_changed-clause-here c =
    let old = get_or c.args.counts.now c.args.n no_count in
    sym (ap (λ t. with_changes old (cond t 1 0)) c.if-not-is_changed.true ∙ with_none old)
