-- Wherever flushes fall, a device is given the listing of all that was reported.
use Rattle.std.proofs.Common.{◌≡◌, ℕ, zero, suc, ◌+◌, ◌<◌, ◌≤◌, Bool, eqb, cond, List, [], ◌∷◌, ◌++◌, length, get_or, replicate, refl, ap, sym, ◌∙◌, append_assoc, append-nil, inl, inr, arith}
use Rattle.std.specs.Prelude.{slice_set, slice_index}
use Rattle.std.proofs.lemmas.List.{same_lists, length-set, get_or-set_other, length-replicate, get_or-replicate}
use Rattle.std.proofs.lemmas.Grind.{get_or_default_zero, get_or-set_at}
use Rattle.std.proofs.lemmas.Bool.{cases_eq, eq-eqb, ne_eqb}
use Rattle.cse_image_parts.specs.Image.{MessageLists}
use Rattle.cse_report.specs.Counts.{most_count, capped, one_more}
use Rattle.cse_report.specs.Listing.{Report, BeginsRun, BeginsCase, LeavesUnseen, Gives, first_line, lines_of, lines_from, heading_after, times, counts_from, counts_of, summary}
use Rattle.cse_report.specs.Held.{counts_after, Progress, Step, Lists, Flushes, stepped, after_steps, reports_in, unwritten, GivesTheListing}

-- ---- the messages and lines

messages_stay : (p : Progress) (steps : List Step) → (after_steps p steps).held.messages ≡ p.held.messages
messages_stay p [] = refl
messages_stay p (Lists r ∷ steps) = messages_stay (stepped p (Lists r)) steps
messages_stay p (Flushes ∷ steps) = messages_stay (stepped p Flushes) steps

pub lines_given : (p : Progress) (steps : List Step) → (after_steps p steps).written ++ (after_steps p steps).held.lines ≡ (p.written ++ p.held.lines) ++ lines_from p.held.messages p.held.heading (reports_in steps)
lines_given p [] = sym (append-nil (p.written ++ p.held.lines))
lines_given p (Lists r ∷ steps) =
    let m = p.held.messages in
    let h = p.held.heading in
    let rest = lines_from m (heading_after m h r) (reports_in steps) in
    lines_given (stepped p (Lists r)) steps
    ∙ (ap (λ (l : List ℕ). l ++ rest) (sym (append_assoc p.written p.held.lines (lines_of m h r))) ∙ append_assoc (p.written ++ p.held.lines) (lines_of m h r) rest)
lines_given p (Flushes ∷ steps) =
    lines_given (stepped p Flushes) steps ∙ ap (λ (l : List ℕ). l ++ lines_from p.held.messages p.held.heading (reports_in steps)) (append-nil (p.written ++ p.held.lines))

-- ---- the counts

abbrev all_counts : List ℕ → List Report → List ℕ
all_counts counts [] = counts
all_counts counts (r ∷ rs) = all_counts (counts_after counts r) rs

counts_kept : (p : Progress) (steps : List Step) → (after_steps p steps).held.counts ≡ all_counts p.held.counts (reports_in steps)
counts_kept p [] = refl
counts_kept p (Lists r ∷ steps) = counts_kept (stepped p (Lists r)) steps
counts_kept p (Flushes ∷ steps) = counts_kept (stepped p Flushes) steps

same_length : (counts : List ℕ) (rs : List Report) → length (all_counts counts rs) ≡ length counts
same_length counts [] = refl
same_length counts (BeginsRun ∷ rs) = same_length counts rs
same_length counts (BeginsCase ids ∷ rs) = same_length counts rs
same_length counts (LeavesUnseen number what ∷ rs) = same_length counts rs
same_length counts (Gives i args ∷ rs) = same_length (slice_set counts i (one_more (slice_index counts i))) rs ∙ length-set counts i (one_more (slice_index counts i))

-- the count of a message that is given, and of another one
capped_more : (x t : ℕ) → capped (one_more x + t) ≡ capped (x + (1 + t))
capped_more x t = omega arith

here : (counts : List ℕ) (i k t : ℕ) (all : List ℕ) → k < length counts → i ≡ k
    → (k < length (slice_set counts i (one_more (slice_index counts i))) → get_or (slice_set counts i (one_more (slice_index counts i))) k 0 ≤ most_count
    → get_or all k 0 ≡ capped (get_or (slice_set counts i (one_more (slice_index counts i))) k 0 + t))
    → get_or all k 0 ≡ capped (get_or counts k 0 + ((cond (eqb i k) 1 0) + t))
here counts i k t all h e rest =
    let more = one_more (slice_index counts i) in
    let next = slice_set counts i more in
    let inside : i < length counts = omega arith in
    let now : get_or next k 0 ≡ one_more (get_or counts k 0) = get_or-set_at counts i k more 0 (sym e) inside ∙ ap (λ n. one_more (get_or counts n 0)) e in
    let small : get_or next k 0 ≤ most_count = omega (arith, now) in
    rest (omega (arith, length-set counts i more)) small
    ∙ (ap (λ n. capped (n + t)) now ∙ (capped_more (get_or counts k 0) t ∙ ap (λ (b : Bool). capped (get_or counts k 0 + ((cond b 1 0) + t))) (sym (eq-eqb i k e))))

elsewhere : (counts : List ℕ) (i k t : ℕ) (all : List ℕ) → k < length counts → get_or counts k 0 ≤ most_count → (i ≡ k → ⊥)
    → (k < length (slice_set counts i (one_more (slice_index counts i))) → get_or (slice_set counts i (one_more (slice_index counts i))) k 0 ≤ most_count
    → get_or all k 0 ≡ capped (get_or (slice_set counts i (one_more (slice_index counts i))) k 0 + t))
    → get_or all k 0 ≡ capped (get_or counts k 0 + ((cond (eqb i k) 1 0) + t))
elsewhere counts i k t all h le other rest =
    let more = one_more (slice_index counts i) in
    let next = slice_set counts i more in
    let now : get_or next k 0 ≡ get_or counts k 0 = get_or-set_other counts i k more 0 (λ q. other (sym q)) in
    let small : get_or next k 0 ≤ most_count = omega (arith, now) in
    let none : capped (get_or counts k 0 + t) ≡ capped (get_or counts k 0 + (0 + t)) = omega arith in
    rest (omega (arith, length-set counts i more)) small
    ∙ (ap (λ n. capped (n + t)) now ∙ (none ∙ ap (λ (b : Bool). capped (get_or counts k 0 + ((cond b 1 0) + t))) (sym (ne_eqb i k other))))

-- what a count comes to
count_at : (counts : List ℕ) (rs : List Report) (k : ℕ) → k < length counts → get_or counts k 0 ≤ most_count → get_or (all_counts counts rs) k 0 ≡ capped (get_or counts k 0 + times k rs)
count_at counts [] k h le = omega arith
count_at counts (BeginsRun ∷ rs) k h le = count_at counts rs k h le ∙ omega arith
count_at counts (BeginsCase ids ∷ rs) k h le = count_at counts rs k h le ∙ omega arith
count_at counts (LeavesUnseen number what ∷ rs) k h le = count_at counts rs k h le ∙ omega arith
count_at counts (Gives i args ∷ rs) k h le = elim (cases_eq i k) [
  | inl e ↦ here counts i k (times k rs) (all_counts (slice_set counts i (one_more (slice_index counts i))) rs) h e (λ j small. count_at (slice_set counts i (one_more (slice_index counts i))) rs k j small)
  | inr other ↦ elsewhere counts i k (times k rs) (all_counts (slice_set counts i (one_more (slice_index counts i))) rs) h le other (λ j small. count_at (slice_set counts i (one_more (slice_index counts i))) rs k j small)
]

counts_at : (b : ℕ) (ms : List MessageLists) (rs : List Report) (k : ℕ) → k < length ms → get_or (counts_from b ms rs) k 0 ≡ capped (times (b + k) rs)
counts_at b [] rs k h = absurd (omega arith)
counts_at b (m ∷ ms) rs zero h = let e : b ≡ b + 0 = omega arith in ap (λ n. capped (times n rs)) e
counts_at b (m ∷ ms) rs (suc k) h = let e : suc b + k ≡ b + suc k = omega arith in counts_at (suc b) ms rs k (omega arith) ∙ ap (λ n. capped (times n rs)) e

counts_length : (b : ℕ) (ms : List MessageLists) (rs : List Report) → length (counts_from b ms rs) ≡ length ms
counts_length b [] rs = refl
counts_length b (m ∷ ms) rs = ap suc (counts_length (suc b) ms rs)

whole_count : (x k : ℕ) (rs : List Report) → x ≡ 0 → capped (x + times k rs) ≡ capped (times (0 + k) rs)
whole_count x k rs e =
    let same : x + times k rs ≡ times k rs = omega (arith, e) in
    let place : k ≡ 0 + k = omega arith in
    ap capped same ∙ ap (λ n. capped (times n rs)) place

counts_whole : (ms : List MessageLists) (rs : List Report) → all_counts (replicate (length ms) 0) rs ≡ counts_of ms rs
counts_whole ms rs =
    let zeros : List ℕ = replicate (length ms) 0 in
    let long : length (all_counts zeros rs) ≡ length ms = same_length zeros rs ∙ length-replicate {A = ℕ} (length ms) 0 in
    same_lists (all_counts zeros rs) (counts_of ms rs) (long ∙ sym (counts_length 0 ms rs)) (λ k d h.
    let within : k < length ms = omega (arith, long) in
    let room : k < length zeros = omega (arith, length-replicate {A = ℕ} (length ms) 0) in
    let zero_at : get_or zeros k 0 ≡ 0 = get_or-replicate (length ms) k 0 0 within in
    let small : get_or zeros k 0 ≤ most_count = omega (arith, zero_at) in
    let end : k < length (counts_of ms rs) = omega (arith, counts_length 0 ms rs) in
    let shift : capped (get_or zeros k 0 + times k rs) ≡ capped (times (0 + k) rs) = whole_count (get_or zeros k 0) k rs zero_at in
    get_or_default_zero (all_counts zeros rs) k d h
    ∙ (count_at zeros rs k room small ∙ (shift ∙ (sym (counts_at 0 ms rs k within) ∙ sym (get_or_default_zero (counts_of ms rs) k d end)))))

-- ---- all

pub gives_the_listing : GivesTheListing
gives_the_listing messages steps cases lines unseen =
    let p = unwritten messages in
    let end = after_steps p steps in
    let rs = reports_in steps in
    sym (append_assoc end.written end.held.lines (summary end.held.messages end.held.counts cases lines unseen))
    ∙ (ap (λ (l : List ℕ). l ++ summary end.held.messages end.held.counts cases lines unseen) (lines_given p steps)
    ∙ (ap (λ (m : List MessageLists). (first_line ++ lines_from messages [] rs) ++ summary m end.held.counts cases lines unseen) (messages_stay p steps)
    ∙ ap (λ (n : List ℕ). (first_line ++ lines_from messages [] rs) ++ summary messages n cases lines unseen) (counts_kept p steps ∙ counts_whole messages rs)))
