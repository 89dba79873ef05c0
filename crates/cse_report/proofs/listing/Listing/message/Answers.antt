use Rattle.std.proofs.Common.{◌≡◌, ◌<◌, ◌++◌, ◌∷◌, [], List, ℕ, Some, true, length, get_or, refl, ap, sym, ◌∙◌, subst, append-nil, arith}
use Rattle.std.specs.Prelude.{map, slice_get}
use Rattle.std.specs.String.{string_bytes}
use Rattle.std.proofs.lemmas.Bool.{false≢true}
use Rattle.std.proofs.lemmas.List.{length-map, length-set}
use Rattle.cse_image_parts.specs.declared.entries.Message.{Message}
use Rattle.cse_image_parts.specs.Image.{message_lists}
use Rattle.cse_report.specs.contracts.listing.Listing.{the_view}
use Rattle.cse_report.specs.declared.listing.Listing.TheInside.{Inside}
use Rattle.cse_report.specs.Heading.{waiting}
use Rattle.cse_report.specs.MessageText.{message_text}
use Rattle.cse_report.specs.Listing.{message_line, is_listed}
use Rattle.cse_report.specs.Held.{Held}
use Rattle.cse_report.specs.Spans.{IsText, AreTexts, texts_at, text_at}
use Rattle.cse_report.specs.declared.spans.TextSpan.{TextSpan}
use Rattle.cse_report.proofs.SpanLaws.{AreTexts-more, texts_at-more}
use Rattle.cse_report.proofs.HeldLaws.{same_held, message_there, reported-counted, reported-listed, is_listed-there}
use Rattle.cse_report.proofs.listing.Listing.message.Goals.{After-count_one-2}
use Rattle.cse_report.proofs.listing.Listing.message.Goals as goal

-- the message that is there
there : (i : Inside) (h : Held) (index : ℕ) (m : Message) → the_view i ≡ h → index < length h.messages → m ≡ get_or i.messages.items index m → slice_get (map message_lists i.messages.items) index ≡ Some (message_lists m)
there i h index m view low at =
    let inside : index < length (map message_lists i.messages.items) = rw (← view) at low in
    message_there i.messages.items index m (subst (λ n. index < n) (length-map i.messages.items message_lists) inside) at

pub returns-then-message-clause-ok : goal.returns-then-message-clause-ok
returns-then-message-clause-ok c =
    let i = c.self.inside in
    let found = there i c.args.self.now c.args.index c.index-message.result.now c.self.view_is c.requires.there c.index-message.ensures in
    let is = reported-counted (the_view i) c.args.index c.args.args.now (message_lists c.index-message.result.now) found c.if-message.true in
    rw (← c.self.view_is)
    (same_held _ _ _ _ _ _ _ _ _ c.count_one.ensures refl (sym (append-nil i.lines.items)) (sym (append-nil (texts_at i.lines.items i.spans.items))) ∙ sym is)

pub returns-in_err-text-clause-summary : goal.returns-in_err-text-clause-summary
returns-in_err-text-clause-summary c =
    let found = there c.self.inside c.args.self.now c.args.index c.index-message.result.now c.self.view_is c.requires.there c.index-message.ensures in
    let listed = is_listed-there (map message_lists c.self.inside.messages.items) c.args.index (message_lists c.index-message.result.now) found c.if-message.false in
    let same : is_listed c.args.self.now.messages c.args.index ≡ true = rw (← c.self.view_is) listed in
    λ e. absurd (false≢true (sym e ∙ same))

pub returns-in_err-hold_message-clause-summary : goal.returns-in_err-hold_message-clause-summary
returns-in_err-hold_message-clause-summary c =
    let found = there c.self.inside c.args.self.now c.args.index c.index-message.result.now c.self.view_is c.requires.there c.index-message.ensures in
    let listed = is_listed-there (map message_lists c.self.inside.messages.items) c.args.index (message_lists c.index-message.result.now) found c.if-message.false in
    let same : is_listed c.args.self.now.messages c.args.index ≡ true = rw (← c.self.view_is) listed in
    λ e. absurd (false≢true (sym e ∙ same))

made : (c : After-count_one-2) → c.deref-2.result.now ≡ waiting c.self.inside.heading c.self.inside.ids.items ++ message_line c.index-message.result.now.number (message_text (string_bytes c.index-message.result.now.text) c.args.args.now)
made c =
    let i = c.self.inside in
    let m = c.index-message.result.now in
    c.deref-2.ensures.value
    ∙ (c.in_ok-text.ensures.line
    ∙ (ap (λ (l : List ℕ). waiting i.heading l ++ message_line m.number (message_text c.as_str.result.now c.args.args.now)) c.deref.ensures.value
    ∙ ap (λ (l : List ℕ). waiting i.heading i.ids.items ++ message_line m.number (message_text l c.args.args.now)) c.as_str.ensures.value))

placed : (c : After-count_one-2) → IsText c.deref-2.result.now c.in_ok-text.text
placed c = subst (λ (l : List ℕ). IsText l c.in_ok-text.text) (sym c.deref-2.ensures.value) c.in_ok-text.ensures.place

pub invariant_of-self-2 : goal.invariant_of-self-2
invariant_of-self-2 c =
    let i = c.self.inside in
    let more = AreTexts-more i.lines.items c.deref-2.result.now i.spans.items c.in_ok-text.text c.self.invariant.texts (placed c) in
    record {
      same = ap length c.count_one-2.ensures ∙ (length-set c.self.inside.counts.items c.args.index _ ∙ c.self.invariant.same);
      texts = subst (λ (l : List ℕ). AreTexts l c.hold_message.new.spans.items) (sym c.in_ok-hold_message.ensures.lines) (subst (λ (s : List TextSpan). AreTexts (i.lines.items ++ c.deref-2.result.now) s) (sym c.in_ok-hold_message.ensures.spans) more);
    }

pub returns-clause-ok : goal.returns-clause-ok
returns-clause-ok c =
    let i = c.self.inside in
    let m = message_lists c.index-message.result.now in
    let found = there i c.args.self.now c.args.index c.index-message.result.now c.self.view_is c.requires.there c.index-message.ensures in
    let is = reported-listed (the_view i) c.args.index c.args.args.now m found c.if-message.false in
    let text : text_at c.deref-2.result.now c.in_ok-text.text ≡ message_text m.text c.args.args.now =
    ap (λ (l : List ℕ). text_at l c.in_ok-text.text) c.deref-2.ensures.value ∙ (c.in_ok-text.ensures.text ∙ ap (λ (l : List ℕ). message_text l c.args.args.now) c.as_str.ensures.value) in
    let lines = c.in_ok-hold_message.ensures.lines ∙ ap (λ (l : List ℕ). i.lines.items ++ l) (made c) in
    let texts =
    ap (λ (l : List ℕ). texts_at l c.hold_message.new.spans.items) c.in_ok-hold_message.ensures.lines
    ∙ (ap (λ (s : List TextSpan). texts_at (i.lines.items ++ c.deref-2.result.now) s) c.in_ok-hold_message.ensures.spans
    ∙ (texts_at-more i.lines.items c.deref-2.result.now i.spans.items c.in_ok-text.text c.self.invariant.texts
    ∙ ap (λ (l : List ℕ). texts_at i.lines.items i.spans.items ++ l ∷ []) text)) in
    rw (← c.self.view_is) (same_held _ _ _ _ _ _ _ _ _ c.count_one-2.ensures refl lines texts ∙ sym is)

here : (i : Inside) (h : Held) (index : ℕ) → the_view i ≡ h → index < length h.messages → index < length i.messages.items
here i h index view low =
    let inside : index < length (map message_lists i.messages.items) = rw (← view) at low in
    subst (λ n. index < n) (length-map i.messages.items message_lists) inside

pub index-message-requires : goal.index-message-requires
index-message-requires c = omega (arith, c.self.inside.messages.ok.0, here c.self.inside c.args.self.now c.args.index c.self.view_is c.requires.there)

pub count_one-requires : goal.count_one-requires
count_one-requires c = omega (arith, c.self.invariant.same, here c.self.inside c.args.self.now c.args.index c.self.view_is c.requires.there)

pub count_one-requires-2 : goal.count_one-requires-2
count_one-requires-2 c = omega (arith, c.self.invariant.same, here c.self.inside c.args.self.now c.args.index c.self.view_is c.requires.there)
