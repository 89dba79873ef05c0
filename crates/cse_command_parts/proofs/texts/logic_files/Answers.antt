use Rattle.std.proofs.Common.{inl, option_map, refl}
use Rattle.cse_value.specs.contracts.device.ReadsInput.TheImpl as reads
use Rattle.std.proofs.lemmas.Result.{err_from_is_err_and}
use Rattle.cse_command_parts.proofs.HaltLaws.{at_messages, at_order, gave_all, gave_named}
use Rattle.cse_command_parts.specs.Named.{text_or_none}
use Rattle.cse_command_parts.proofs.texts.logic_files.Goals as goal

pub returns-in_err-logic-clause-stops : goal.returns-in_err-logic-clause-stops
returns-in_err-logic-clause-stops g c =
    let p = err_from_is_err_and c.from_residual.result c.from_residual.ensures.1 in
    rw (p.1, p.2) (inl c.in_err-logic.ensures.no_text)

pub returns-in_err-messages-clause-stops : goal.returns-in_err-messages-clause-stops
returns-in_err-messages-clause-stops g c =
    let input = reads.ghosts g.row.R-File g.R.File.Read g.R.File.Read-dict in
    let p = err_from_is_err_and c.from_residual-in_err-messages.result c.from_residual-in_err-messages.ensures.1 in
    rw (p.1, p.2)
    (at_messages input.given c.args.logic.now (option_map (λ s. s.now) c.args.messages) (option_map (λ s. s.now) c.args.order) c.in_err-messages.field-0.0 _ c.in_ok-logic.logic.bytes.items
    (gave_all input.given c.in_ok-logic.logic c.args.logic.now c.in_ok-logic.logic.bytes.items c.in_ok-logic.ensures.path c.in_ok-logic.ensures.all refl) c.in_err-messages.ensures.no_text)

pub returns-in_err-order-clause-stops : goal.returns-in_err-order-clause-stops
returns-in_err-order-clause-stops g c =
    let input = reads.ghosts g.row.R-File g.R.File.Read g.R.File.Read-dict in
    let p = err_from_is_err_and c.from_residual-in_err-order.result c.from_residual-in_err-order.ensures.1 in
    rw (p.1, p.2)
    (at_order input.given c.args.logic.now (option_map (λ s. s.now) c.args.messages) (option_map (λ s. s.now) c.args.order) c.in_err-order.field-0.0 _ c.in_ok-logic.logic.bytes.items (text_or_none (option_map (λ f. f.bytes.items) c.in_ok-messages.messages))
    (gave_all input.given c.in_ok-logic.logic c.args.logic.now c.in_ok-logic.logic.bytes.items c.in_ok-logic.ensures.path c.in_ok-logic.ensures.all refl)
    (gave_named input.given c.in_ok-messages.messages (option_map (λ s. s.now) c.args.messages) (text_or_none (option_map (λ f. f.bytes.items) c.in_ok-messages.messages)) c.in_ok-messages.ensures.path c.in_ok-messages.ensures.all refl) c.in_err-order.ensures.no_text)
