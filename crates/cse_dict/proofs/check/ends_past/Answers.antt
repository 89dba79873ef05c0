use Rattle.std.proofs.Common.{◌+◌, ◌-◌, Some, ap, sym, ◌∙◌, nat_lt}
use Rattle.cse_dict.specs.Faults.{ends_past}
use Rattle.cse_dict.proofs.check.ends_past.Goals as goal

pub returns-in-Some-Some : goal.returns-in-Some-Some
returns-in-Some-Some c =
    let start = ap (λ n. n + c.from-in-Some-Some-2.result - 1) c.from-in-Some-Some.ensures in
    let len = ap (λ n. c.in-Some-Some.columns.start + n - 1) c.from-in-Some-Some-2.ensures in
    let behind = ap (λ n. nat_lt c.from.result n) (c.saturating_sub.ensures ∙ (start ∙ len)) in
    let room = ap (λ n. nat_lt n (c.in-Some-Some.columns.start + c.in-Some-Some.columns.len - 1)) c.from.ensures in
    behind ∙ room ∙ sym (ap (λ r. ends_past r c.args.columns) c.in-Some-Some.is-0 ∙ ap (ends_past (Some c.in-Some-Some.room)) c.in-Some-Some.is-1)
