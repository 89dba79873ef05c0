use Rattle.std.proofs.Common.{[], ◌++◌, List, ℕ, length, ap, refl, replicate, subst, sym, ◌∙◌}
use Rattle.std.specs.Prelude.{map}
use Rattle.std.proofs.lemmas.List.{length-map, length-replicate}
use Rattle.cse_image_parts.specs.Image.{MessageLists, message_lists}
use Rattle.cse_report.specs.Held.{Held}
use Rattle.cse_report.specs.Listing.{first_line}
use Rattle.cse_report.specs.Spans.{AreTexts, texts_at}
use Rattle.cse_report.specs.declared.spans.TextSpan.{TextSpan}
use Rattle.cse_report.proofs.HeldLaws.{same_held}
use Rattle.cse_report.proofs.listing.Listing.new.Goals as goal

pub invariant_of-result : goal.invariant_of-result
invariant_of-result c =
    let messages = c.args.messages.now in
    record {
      same = ap length c.in_ok-counts.ensures ∙ length-replicate (length messages) 0 ∙ sym (length-map messages message_lists) ∙ sym (ap length c.in_ok-messages.ensures)
          ∙ length-map c.in_ok-messages.messages.items message_lists;
      texts = subst (λ (s : List TextSpan). AreTexts c.extend_from_slice.new.self.items s) (sym c.new-4.ensures.items) tt;
    }

pub returns : goal.returns
returns c =
    let messages = map message_lists c.args.messages.now in
    let counts = c.in_ok-counts.counts.items in
    let lines = c.extend_from_slice.new.self.items in
    let texts = texts_at lines c.new-4.result.items in
    ap (λ (m : List MessageLists). (let h : Held = record { messages = m; counts = counts; heading = []; lines = lines; texts = texts } in h)) c.in_ok-messages.ensures
    ∙ same_held messages counts (replicate (length messages) 0) [] [] lines first_line texts []
    (c.in_ok-counts.ensures ∙ ap (λ (n : ℕ). replicate n 0) (sym (length-map c.args.messages.now message_lists))) refl
    (c.in_ok-extend_from_slice.ensures.items ∙ ap (λ (l : List ℕ). l ++ first_line) c.new-lines.ensures.items) (ap (texts_at lines) c.new-4.ensures.items)
