use Rattle.std.proofs.Common.{◌∙◌, sym, ap, subst}
use Rattle.cse_dict.specs.Pairs.{RowsBelow, RowsText}
use Rattle.cse_dict.specs.Small.{TellsRows}
use Rattle.cse_dict.specs.Dictionary.{ascends}
use Rattle.cse_dict.proofs.RowLaws.{rows_of-below}
use Rattle.cse_dict.proofs.parts.set_at.Goals as goal

pub invariant_of-result : goal.invariant_of-result
invariant_of-result c =
    let Below : RowsText → Type 0 = λ r. RowsBelow r.rows r.spans in (
      c.ascends-is_ascending.ensures ∙ ap ascends c.deref.ensures.value,
      subst Below (sym (c.rows.view_is ∙ c.in_ok-rows.ensures)) (rows_of-below c.args.context.data_type c.args.section.now),
      subst (TellsRows c.in_ok-small.small.items) c.deref-2.ensures.value c.in_ok-small.ensures,
    )
