use Rattle.std.proofs.Common.{◌≡◌, false, refl, sym, ◌∙◌, subst, append-nil}
use Rattle.cse_report.specs.contracts.listing.Listing.{the_view}
use Rattle.cse_report.specs.Listing.{is_listed}
use Rattle.cse_report.specs.Held.{Held}
use Rattle.cse_report.specs.Spans.{texts_at}
use Rattle.cse_report.proofs.HeldLaws.{same_held, reported-unlisted}
use Rattle.cse_report.proofs.listing.Listing.summary_message.Goals as goal

pub returns : goal.returns
returns c = λ args.
    let i = c.self.inside in
    let unlisted : is_listed (the_view i).messages c.args.index ≡ false = subst (λ (h : Held). is_listed h.messages c.args.index ≡ false) (sym c.self.view_is) c.requires.summary in
    rw (← c.self.view_is)
    (same_held _ _ _ _ _ _ _ _ _ c.count_one.ensures refl (sym (append-nil i.lines.items)) (sym (append-nil (texts_at i.lines.items i.spans.items))) ∙ sym (reported-unlisted (the_view i) c.args.index args unlisted))
