use Rattle.std.proofs.Common.{◌+◌, drop, sym, ◌∙◌, ap}
use Rattle.std.specs.Str.{bytes_eq}
use Rattle.cse_case.specs.Bytes.{columns_lent}
use Rattle.cse_case.specs.NamedColumns.{fields_at}
use Rattle.cse_case.proofs.NamedColumnLaws.{fields_eq-same, fields_eq-other, spans_at}
use Rattle.cse_case.proofs.TakeLaws.{other_ids, same_ids}
use Rattle.cse_case.proofs.layout.are_equal.Goals as goal

pub returns-then-not-is_same_at : goal.returns-then-not-is_same_at
returns-then-not-is_same_at c =
    let a = columns_lent c.args.a in
    let b = columns_lent c.args.b in
    let i = c.spans.span-index in
    let at = spans_at c.args.spans.now i a b c.spans-test.true c.spans.invariant.left c.spans.invariant.right in
    sym (c.spans.invariant.same ∙ ap (λ ss. bytes_eq (fields_at ss a) (fields_at ss b)) at.is
    ∙ fields_eq-other _ (drop (i + 1) c.args.spans.now) a b at.left at.right
    (other_ids _ _ _ c.is_same_at.ensures c.if-not-is_same_at.true))

pub spans-preserved : goal.spans-preserved
spans-preserved c =
    let a = columns_lent c.args.a in
    let b = columns_lent c.args.b in
    let i = c.spans.span-index in
    let at = spans_at c.args.spans.now i a b c.spans-test.true c.spans.invariant.left c.spans.invariant.right in
    record {
      left = at.left_rest;
      right = at.right_rest;
      same = c.spans.invariant.same ∙ ap (λ ss. bytes_eq (fields_at ss a) (fields_at ss b)) at.is
          ∙ fields_eq-same _ (drop (i + 1) c.args.spans.now) a b at.left at.right
          (same_ids _ _ _ c.is_same_at.ensures c.if-not-is_same_at.false);
    }
