-- Laws of listings that have not ended, and of many reports.
use Rattle.std.proofs.Common.{◌≡◌, ℕ, List, [], ◌∷◌, ◌++◌, refl, ap, sym, ◌∙◌, append_assoc, append-nil}
use Rattle.cse_image_parts.specs.Image.{MessageLists}
use Rattle.cse_report.specs.Listing.{Report, lines_of, lines_from, heading_after}
use Rattle.cse_report.specs.Held.{Held, reported, flushed, texts_of, stepped, Lists, unwritten}
use Rattle.cse_report.specs.Unended.{GivesTheLinesSoFar, GrowsAtItsEnd}
use Rattle.cse_report.specs.Frequency.{imputed}
use Rattle.cse_report.specs.AllReported.{all_reported, behind, FlushesBetween, ListsAll, ImputesAll}
use Rattle.cse_report.proofs.HeldLaws.{same_held}
use Rattle.cse_report.proofs.ListingLaws.{lines_given}

pub lines_so_far : GivesTheLinesSoFar
lines_so_far messages steps = lines_given (unwritten messages) steps

pub grows : GrowsAtItsEnd
grows m h [] others = record { rest = lines_from m h others; is = refl }
grows m h (r ∷ rs) others =
    let later = grows m (heading_after m h r) rs others in
    record { rest = later.rest; is = ap (λ (l : List ℕ). lines_of m h r ++ l) later.is ∙ sym (append_assoc (lines_of m h r) (lines_from m (heading_after m h r) rs) later.rest) }

pub lists_all : ListsAll
lists_all p [] = refl
lists_all p (r ∷ rs) = lists_all (stepped p (Lists r)) rs

-- ---- a flush in between

reported_behind : (l : List ℕ) (t : List (List ℕ)) (h : Held) (r : Report) → reported (behind l t h) r ≡ behind l t (reported h r)
reported_behind l t h r = same_held _ _ _ _ _ _ _ _ _ refl refl (append_assoc l h.lines (lines_of h.messages h.heading r)) (append_assoc t h.texts (texts_of h.messages r))

all_behind : (l : List ℕ) (t : List (List ℕ)) (h : Held) (rs : List Report) → all_reported (behind l t h) rs ≡ behind l t (all_reported h rs)
all_behind l t h [] = refl
all_behind l t h (r ∷ rs) = ap (λ (g : Held). all_reported g rs) (reported_behind l t h r) ∙ all_behind l t (reported h r) rs

flushed_behind : (h : Held) → behind h.lines h.texts (flushed h) ≡ h
flushed_behind h = same_held _ _ _ _ _ _ _ _ _ refl refl (append-nil h.lines) (append-nil h.texts)

pub all_later : (h : Held) (rs later : List Report) → all_reported h (rs ++ later) ≡ all_reported (all_reported h rs) later
all_later h [] later = refl
all_later h (r ∷ rs) later = all_later (reported h r) rs later

pub flushes_between : FlushesBetween
flushes_between h rs later =
    let g = all_reported h rs in
    all_later h rs later ∙ (ap (λ (x : Held). all_reported x later) (sym (flushed_behind g)) ∙ all_behind g.lines g.texts (flushed g) later)

pub imputes_all : ImputesAll
imputes_all tables [] later = refl
imputes_all tables (x ∷ xs) later = imputes_all (imputed tables x.0 x.1) xs later
