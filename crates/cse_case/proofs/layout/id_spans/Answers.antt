use Rattle.std.proofs.Common.{◌++◌, ◌∷◌, [], List, Vec, Global, ap, ap₂, sym, ◌∙◌}
use Rattle.cse_case.specs.declared.layout.ColumnSpan.{ColumnSpan}
use Rattle.cse_case.proofs.NamedColumnLaws.{id_spans-other, id_spans-own}
use Rattle.cse_case.proofs.layout.id_spans.Goals as goal
use Rattle.cse_case.proofs.layout.id_spans.Goals.{then-item+in_ok-push, else-item}

pub items-preserved : goal.items-preserved
items-preserved c =
    let items = c.args.items.now in
    let i = c.items.item-index in
    elim c.if-item.branch [
      | then-item+in_ok-push w ↦
          ap (λ (v : Vec ColumnSpan Global). v.items) w.spans-is ∙ w.in_ok-push.ensures.items
          ∙ ap₂ (λ (l : List ColumnSpan) (s : ColumnSpan). l ++ s ∷ []) c.items.invariant w.span_of.ensures ∙ sym (id_spans-own items i _ c.items-test.true w.if-item.true)
      | else-item w ↦
          ap (λ (v : Vec ColumnSpan Global). v.items) w.spans-is ∙ c.items.invariant ∙ sym (id_spans-other items i _ c.items-test.true w.if-item.false)
    ]
