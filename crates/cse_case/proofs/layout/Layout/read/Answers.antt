use Rattle.std.proofs.Common.{◌+◌, ◌-◌, max, map, filter, ap, ◌∙◌}
use Rattle.cse_case.specs.NamedColumns.{last_column, span_of}
use Rattle.std.specs.Prelude.{◌==◌}
use Rattle.cse_case.proofs.NamedColumnLaws.{layout_is}
use Rattle.cse_case.proofs.layout.Layout.read.Goals as goal

pub returns : goal.returns
returns c =
    layout_is c.args.dictionary.now c.in_ok-ids.ids.items _ _ _
    (c.in_ok-ids.ensures ∙ ap (λ l. map span_of (filter (λ item. item.owner == 255) l)) (c.deref.ensures.value ∙ ap (λ s. s.items) c.shape.ensures.shape))
    (ap (λ p. p.0) c.type_columns-start.ensures) (ap (λ p. p.1) c.type_columns-start.ensures)
    (c.max-least_width.ensures ∙ ap (λ n. max n c.last_column.result) c.last_of.ensures ∙ ap (λ n. max (c.type_columns-start.result.0 - 1 + c.type_columns-start.result.1) n) (c.last_column.ensures ∙ ap last_column c.deref-2.ensures.value))
