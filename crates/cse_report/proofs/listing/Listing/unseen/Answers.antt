use Rattle.std.proofs.Common.{◌≡◌, ◌++◌, List, ℕ, refl, ap, sym, ◌∙◌, subst, append-nil}
use Rattle.cse_report.specs.Heading.{waiting}
use Rattle.cse_report.specs.Listing.{unseen_line}
use Rattle.cse_report.specs.Spans.{texts_at, AreTexts}
use Rattle.cse_report.proofs.SpanLaws.{AreTexts-append, texts_at-append}
use Rattle.cse_report.proofs.HeldLaws.{same_held}
use Rattle.cse_report.proofs.listing.Listing.unseen.Goals.{After-self-1}
use Rattle.cse_report.proofs.listing.Listing.unseen.Goals as goal

made : (c : After-self-1) → c.extend_from_slice.new.self.items ≡ c.self.inside.lines.items ++ (waiting c.self.inside.heading c.self.inside.ids.items ++ unseen_line c.args.line c.args.what)
made c =
    let i = c.self.inside in
    c.in_ok-extend_from_slice.ensures.items
    ∙ ap (λ (l : List ℕ). i.lines.items ++ l) (c.deref-2.ensures.value ∙ (c.in_ok-make_unseen.ensures ∙ ap (λ (l : List ℕ). waiting i.heading l ++ unseen_line c.args.line c.args.what) c.deref.ensures.value))

pub invariant_of-self-2 : goal.invariant_of-self-2
invariant_of-self-2 c = record {
  same = c.self.invariant.same;
  texts = subst (λ (l : List ℕ). AreTexts l c.self.inside.spans.items) (sym (made c)) (AreTexts-append c.self.inside.lines.items _ c.self.inside.spans.items c.self.invariant.texts);
}

pub returns-clause-ok : goal.returns-clause-ok
returns-clause-ok c =
    let i = c.self.inside in
    let texts = ap (λ (l : List ℕ). texts_at l i.spans.items) (made c) ∙ (texts_at-append i.lines.items _ i.spans.items c.self.invariant.texts ∙ sym (append-nil (texts_at i.lines.items i.spans.items))) in
    rw (← c.self.view_is) (same_held _ _ _ _ _ _ _ _ _ refl refl (made c) texts)
