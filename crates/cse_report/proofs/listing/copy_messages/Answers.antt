use Rattle.std.proofs.Common.{◌≡◌, ◌+◌, ◌<◌, ◌++◌, ◌∷◌, [], ℕ, List, length, get_or, take, ap, sym, ◌∙◌}
use Rattle.std.specs.Prelude.{map}
use Rattle.std.specs.String.{string_bytes}
use Rattle.std.proofs.lemmas.List.{map-append, take_all, take_more}
use Rattle.cse_image_parts.specs.declared.entries.Message.{Message}
use Rattle.cse_image_parts.specs.Image.{MessageLists, message_lists}
use Rattle.cse_report.proofs.listing.copy_messages.Goals as goal

-- a copy more
copied : (copies : List Message) (m copy : Message) (messages : List Message) (i : ℕ) → i < length messages → m ≡ get_or messages i m → message_lists copy ≡ message_lists m
    → map message_lists copies ≡ map message_lists (take i messages) → map message_lists (copies ++ copy ∷ []) ≡ map message_lists (take (i + 1) messages)
copied copies m copy messages i h at same before =
    map-append message_lists copies (copy ∷ [])
    ∙ (ap (λ (l : MessageLists). map message_lists copies ++ l ∷ []) same
    ∙ (ap (λ (l : List MessageLists). l ++ message_lists m ∷ []) before
    ∙ (ap (λ (x : Message). map message_lists (take i messages) ++ message_lists x ∷ []) at
    ∙ (sym (map-append message_lists (take i messages) (get_or messages i m ∷ [])) ∙ ap (map message_lists) (sym (take_more messages i m h))))))

pub messages-preserved : goal.messages-preserved
messages-preserved c =
    let m = c.message-item.result in
    let copy : Message = record { number = m.number; summary = m.summary; text = c.in_ok-text.text } in
    let text : string_bytes c.in_ok-text.text ≡ string_bytes m.text = c.in_ok-text.ensures.ok ∙ c.as_str.ensures.value in
    let same : message_lists copy ≡ message_lists m = ap (λ (t : List ℕ). (let l : MessageLists = record { number = m.number; summary = m.summary; text = t } in l)) text in
    ap (map message_lists) c.in_ok-push.ensures.items ∙ copied c.messages.copies.items m copy c.args.messages.now c.messages.message-index c.messages-test.true c.message-item.is same c.messages.invariant

pub returns : goal.returns
returns c = c.messages.invariant ∙ ap (map message_lists) (take_all c.messages.message-index c.args.messages.now c.messages-test.false)
