use Rattle.std.proofs.Common.{◌≡◌, ap, sym, ◌∙◌, length, nat_lt}
use Rattle.std.specs.Prelude.{◌||◌, is_some}
use Rattle.cse_image_parts.specs.declared.entries.EventCode.TheVariants.{RecordPreproc, RecordPostproc}
use Rattle.cse_verify.specs.CaseEvents.{event}
use Rattle.cse_batch_parts.specs.Handled.{has_routine}
use Rattle.cse_batch_parts.proofs.handled.is_handled.Goals.{then-is_some, else-is_some}
use Rattle.cse_batch_parts.proofs.handled.is_handled.Goals as goal

pub returns-else-len-gt0 : goal.returns-else-len-gt0
returns-else-len-gt0 c =
    let own = c.args.handled.now in
    let items = nat_lt 0 (length own.items.items) in
    let either : c.if-is_some.value ≡ (is_some own.preproc || items) = elim c.if-is_some.branch [
      | then-is_some w ↦ w.value-is ∙ w.if-is_some.true ∙ ap (λ b. b || items) (sym w.if-is_some.true ∙ c.is_some.ensures)
      | else-is_some w ↦ w.value-is ∙ ap (nat_lt 0) (w.len.ensures ∙ own.items.ok.0) ∙ ap (λ b. b || items) (sym w.if-is_some.false ∙ c.is_some.ensures)
    ] in
    λ v h.
    let before = has_routine v.image (event RecordPreproc own.number) in
    let behind = has_routine v.image (event RecordPostproc own.number) in
    c.is_some-else-len-gt0.ensures
    ∙ ap is_some h.postproc
    ∙ ap (λ b. b || behind) (sym c.if-len-gt0.false ∙ either)
    ∙ ap (λ o. (is_some o || items) || behind) h.preproc
    ∙ ap (λ l. (before || nat_lt 0 (length l)) || behind) h.items
