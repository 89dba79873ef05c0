use Rattle.std.proofs.Common.{◌-◌, ◌∙◌, min, ap}
use Rattle.cse_case.specs.Bytes.{columns_lent}
use Rattle.cse_case.proofs.FieldLaws.{field_here}
use Rattle.cse_case.proofs.field.field_of.Goals as goal

pub returns : goal.returns
returns c =
    let item = c.args.item.now in
    let start = c.start_in-start.result in
    c.part.ensures
    ∙ field_here item (columns_lent c.args.columns) start c.min-count.result (c.start_in-start.ensures ∙ ap (min (item.start - 1)) c.len.ensures) (c.min-count.ensures ∙ ap (λ n. min item.len (n - start)) c.len-2.ensures)
