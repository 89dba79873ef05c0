use Rattle.std.proofs.Common.{◌++◌, ap, ◌∙◌, get_or}
use Rattle.cse_case.specs.Bytes.{columns_lent}
use Rattle.cse_case.specs.NamedColumns.{field_at}
use Rattle.cse_case.specs.declared.layout.ColumnSpan.{ColumnSpan}
use Rattle.cse_case.proofs.IdLaws.{fields_at-more}
use Rattle.cse_case.proofs.source.put_each.Goals as goal

pub spans-preserved : goal.spans-preserved
spans-preserved c =
    let no : ColumnSpan = record { start = 0; len = 0 } in
    record {
      within = c.in_ok-at.ensures.within;
      put = c.in_ok-at.ensures.put ∙ (ap (λ l. l ++ field_at (get_or c.args.spans.now c.spans.span-index no) (columns_lent c.args.columns)) c.spans.invariant.put
          ∙ fields_at-more c.args.spans.now c.spans.span-index no (columns_lent c.args.columns) c.spans-test.true);
    }
