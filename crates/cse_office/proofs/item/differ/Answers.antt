use Rattle.std.proofs.Common.{◌≡◌, ◌+◌, ◌-◌, not, ◌||◌, ap, sym, ◌∙◌, arith, add_assoc}
use Rattle.cse_case.specs.Bytes.{columns_lent}
use Rattle.cse_office.specs.Changes.{differ}
use Rattle.cse_office.proofs.ChangeLaws.{differ_none, differ_step}
use Rattle.cse_office.proofs.item.differ.Goals as goal

pub returns-then-not-is_same_column : goal.returns-then-not-is_same_column
returns-then-not-is_same_column c =
    let at = c.args.first + c.columns.i in
    let len = c.args.len - c.columns.i in
    let a = columns_lent c.args.before in
    let b = columns_lent c.args.after in
    sym (c.columns.invariant ∙ (differ_step at len a b (omega (arith, c.columns-test.true))
    ∙ ap (λ t. not t || differ (at + 1) (len - 1) a b) (sym c.is_same_column.ensures ∙ c.if-not-is_same_column.true)))

pub columns-preserved : goal.columns-preserved
columns-preserved c =
    let at = c.args.first + c.columns.i in
    let len = c.args.len - c.columns.i in
    let a = columns_lent c.args.before in
    let b = columns_lent c.args.after in
    c.columns.invariant ∙ (differ_step at len a b (omega (arith, c.columns-test.true))
    ∙ (ap (λ t. not t || differ (at + 1) (len - 1) a b) (sym c.is_same_column.ensures ∙ c.if-not-is_same_column.false)
    ∙ (ap (λ n. differ n (len - 1) a b) (add_assoc c.args.first c.columns.i 1)
    ∙ ap (λ n. differ (c.args.first + (c.columns.i + 1)) n a b) (omega arith))))

pub returns : goal.returns
returns c =
    let none : c.args.len - c.columns.i ≡ 0 = omega (arith, c.columns-test.false) in
    sym (c.columns.invariant ∙ (ap (λ n. differ (c.args.first + c.columns.i) n (columns_lent c.args.before) (columns_lent c.args.after)) none ∙ differ_none (c.args.first + c.columns.i) (columns_lent c.args.before) (columns_lent c.args.after)))
