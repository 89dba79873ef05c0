-- Reports that are held while a run goes on.
use Rattle.std.proofs.Common.{◌≡◌, ℕ, List, [], ◌∷◌, ◌++◌, refl, sym, ap, ◌∙◌, append_assoc, append-nil}
use Rattle.cse_image_parts.specs.Image.{MessageLists}
use Rattle.cse_report.specs.Listing.{Report, heading_after, lines_from, lines_of, listing}
use Rattle.cse_report.specs.Held.{Held, Flushes, Progress, Step, after_steps, begun, ending, flushed, given_in_all, reported, reports_in, stepped, unwritten}
use Rattle.cse_report.specs.Unended.{unended}
use Rattle.cse_report.specs.AllReported.{all_reported, as_steps}
use Rattle.cse_report.proofs.ListingLaws.{gives_the_listing}
use Rattle.cse_report.proofs.ToldLaws.{lists_all}

lines_held : (h : Held) (rs : List Report) → (all_reported h rs).lines ≡ h.lines ++ lines_from h.messages h.heading rs
lines_held h [] = sym (append-nil h.lines)
lines_held h (r ∷ rs) = lines_held (reported h r) rs ∙ append_assoc h.lines (lines_of h.messages h.heading r) (lines_from h.messages (heading_after h.messages h.heading r) rs)

-- the lines of all that was reported are the listing so far
pub unended_held : (m : List MessageLists) (rs : List Report) → (all_reported (begun m) rs).lines ≡ unended m rs
unended_held m rs = lines_held (begun m) rs

steps_later : (p : Progress) (a b : List Step) → after_steps p (a ++ b) ≡ after_steps (after_steps p a) b
steps_later p [] b = refl
steps_later p (s ∷ a) b = steps_later (stepped p s) a b

reports_flushed : (rs : List Report) → reports_in (as_steps rs ++ Flushes ∷ []) ≡ rs
reports_flushed [] = refl
reports_flushed (r ∷ rs) = ap (λ (l : List Report). r ∷ l) (reports_flushed rs)

-- with what is listed at the end they are the listing
pub listing_held : (m : List MessageLists) (rs : List Report) (cases lines unseen : ℕ)
    → (all_reported (begun m) rs).lines ++ ending (flushed (all_reported (begun m) rs)) cases lines unseen ≡ listing m rs cases lines unseen
listing_held m rs cases lines unseen =
    let h = all_reported (begun m) rs in
    let is : after_steps (unwritten m) (as_steps rs ++ Flushes ∷ []) ≡ record { written = h.lines; held = flushed h } =
    steps_later (unwritten m) (as_steps rs) (Flushes ∷ []) ∙ ap (λ (p : Progress). after_steps p (Flushes ∷ [])) (lists_all (unwritten m) rs) in
    ap (λ (p : Progress). given_in_all p cases lines unseen) (sym is)
    ∙ (gives_the_listing m (as_steps rs ++ Flushes ∷ []) cases lines unseen ∙ ap (λ (l : List Report). listing m l cases lines unseen) (reports_flushed rs))
