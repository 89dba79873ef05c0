use Rattle.std.proofs.Common.{◌+◌, ap, sym, ◌∙◌, drop, not, ◌&&◌}
use Rattle.cse_case.specs.Bytes.{columns_lent}
use Rattle.cse_office.specs.Changes.{has_same_ids}
use Rattle.cse_office.proofs.ChangeLaws.{ids_none, ids_on}
use Rattle.cse_office.proofs.pair.has_same_ids.Goals as goal

pub returns-then-is_changed_own : goal.returns-then-is_changed_own
returns-then-is_changed_own c =
    let a = columns_lent c.args.before in
    let b = columns_lent c.args.after in
    sym (c.items.invariant ∙ (ids_on c.args.items.now c.items.n a b _ c.items-test.true
    ∙ ap (λ t. not t && has_same_ids (drop (c.items.n + 1) c.args.items.now) a b) (sym c.is_changed_own.ensures ∙ c.if-is_changed_own.true)))

pub items-preserved : goal.items-preserved
items-preserved c =
    let a = columns_lent c.args.before in
    let b = columns_lent c.args.after in
    c.items.invariant ∙ (ids_on c.args.items.now c.items.n a b _ c.items-test.true
    ∙ ap (λ t. not t && has_same_ids (drop (c.items.n + 1) c.args.items.now) a b) (sym c.is_changed_own.ensures ∙ c.if-is_changed_own.false))

pub returns : goal.returns
returns c = sym (c.items.invariant ∙ ids_none c.args.items.now c.items.n (columns_lent c.args.before) (columns_lent c.args.after) c.items-test.false)
