-- Lines and sections as lists.
use Rattle.std.proofs.Common.{◌≡◌, ◌<◌, ◌≤◌, ◌+◌, suc, subst, ℕ, Bool, true, false, cond, List, [], ◌∷◌, ◌++◌, length, take, drop, refl, sym, ap, ◌∙◌, arith, rules, tests, None, Some}
use Rattle.std.specs.Prelude.{position, nat_lt, ◌==◌, if◌then◌else◌}
use Rattle.std.specs.List.{position_or_len, onto_first, slice_split}
use Rattle.std.specs.Str.Lines.{lines_of_parts, strip_carriage_return}
use Rattle.std.proofs.lemmas.Option.{cond_some}
use Rattle.std.proofs.lemmas.Bool.{ltb-true, ltb-false}
use Rattle.cse_sections.specs.Sections.{SectionText, EntryText, lines_of, with_entry}

-- a line feed
abbrev pub is_feed : ℕ → Bool
is_feed b = b == 10

-- the parts between line feeds
abbrev parts_of : List ℕ → List (List ℕ)
parts_of bs = slice_split is_feed bs

module _ (b : ℕ) (bs : List ℕ) where
  feed_first : b == 10 ≡ true → parts_of (b ∷ bs) ≡ [] ∷ parts_of bs
  feed_first e = rw e refl

  other_first : b == 10 ≡ false → parts_of (b ∷ bs) ≡ onto_first b (parts_of bs)
  other_first e = rw e refl

  feed_place : b == 10 ≡ true → position_or_len is_feed (b ∷ bs) ≡ 0
  feed_place e = rw e refl

  other_place : b == 10 ≡ false → position_or_len is_feed (b ∷ bs) ≡ suc (position_or_len is_feed bs)
  other_place e = rw e (omega arith)

-- the first part ends at the first line feed
parts_of-first : (bs : List ℕ) (n : ℕ) → position_or_len is_feed bs ≡ n → n < length bs
    → parts_of bs ≡ take n bs ∷ parts_of (drop (n + 1) bs)
parts_of-first [] n at h = absurd (omega (arith, h))
parts_of-first (b ∷ bs) n at h = by (parts_of-first bs) (b == 10) refl
  where
    by : ((m : ℕ) → position_or_len is_feed bs ≡ m → m < length bs → parts_of bs ≡ take m bs ∷ parts_of (drop (m + 1) bs))
        → (v : Bool) → b == 10 ≡ v → parts_of (b ∷ bs) ≡ take n (b ∷ bs) ∷ parts_of (drop (n + 1) (b ∷ bs))
    by rest true e = feed_first b bs e ∙ ap (λ k. take k (b ∷ bs) ∷ parts_of (drop (k + 1) (b ∷ bs))) (sym (feed_place b bs e) ∙ at)
    by rest false e =
        let m = position_or_len is_feed bs in
        let is : suc m ≡ n = sym (other_place b bs e) ∙ at in
        let more : suc (m + 1) ≡ n + 1 = omega (arith, is) in
        other_first b bs e ∙ ap (onto_first b) (rest m refl (omega (arith, h, is)))
        ∙ ap (λ k. take (suc m) (b ∷ bs) ∷ parts_of (drop k (b ∷ bs))) more ∙ ap (λ k. take k (b ∷ bs) ∷ parts_of (drop (n + 1) (b ∷ bs))) is

-- without a line feed the text is one part
parts_of-last : (b : ℕ) (bs : List ℕ) → length (b ∷ bs) ≤ position_or_len is_feed (b ∷ bs) → parts_of (b ∷ bs) ≡ (b ∷ bs) ∷ []
parts_of-last b [] h = by (b == 10) refl
  where
    by : (v : Bool) → b == 10 ≡ v → parts_of (b ∷ []) ≡ (b ∷ []) ∷ []
    by true e = absurd (omega (arith, h, feed_place b [] e))
    by false e = other_first b [] e
parts_of-last b (c ∷ cs) h = by (parts_of-last c cs) (b == 10) refl
  where
    by : (length (c ∷ cs) ≤ position_or_len is_feed (c ∷ cs) → parts_of (c ∷ cs) ≡ (c ∷ cs) ∷ [])
        → (v : Bool) → b == 10 ≡ v → parts_of (b ∷ c ∷ cs) ≡ (b ∷ c ∷ cs) ∷ []
    by rest true e = absurd (omega (arith, h, feed_place b (c ∷ cs) e))
    by rest false e = other_first b (c ∷ cs) e ∙ ap (onto_first b) (rest (omega (arith, h, other_place b (c ∷ cs) e)))

-- a part with more parts behind it is a line, without its carriage return
lines_of_parts-first : (x : List ℕ) (bs : List ℕ) → lines_of_parts (x ∷ parts_of bs) ≡ strip_carriage_return x ∷ lines_of_parts (parts_of bs)
lines_of_parts-first x [] = refl
lines_of_parts-first x (b ∷ bs) = by (b == 10) refl
  where
    with_more : (ps : List (List ℕ)) → lines_of_parts (x ∷ onto_first b ps) ≡ strip_carriage_return x ∷ lines_of_parts (onto_first b ps)
    with_more [] = refl
    with_more (p ∷ ps) = refl

    by : (v : Bool) → b == 10 ≡ v → lines_of_parts (x ∷ parts_of (b ∷ bs)) ≡ strip_carriage_return x ∷ lines_of_parts (parts_of (b ∷ bs))
    by true e = ap (λ ps. lines_of_parts (x ∷ ps)) (feed_first b bs e) ∙ ap (λ ps. strip_carriage_return x ∷ lines_of_parts ps) (sym (feed_first b bs e))
    by false e = ap (λ ps. lines_of_parts (x ∷ ps)) (other_first b bs e) ∙ with_more (parts_of bs) ∙ ap (λ ps. strip_carriage_return x ∷ lines_of_parts ps) (sym (other_first b bs e))

pub lines_of-feed : (bs : List ℕ) (i : ℕ) → position is_feed bs ≡ Some i → lines_of bs ≡ strip_carriage_return (take i bs) ∷ lines_of (drop (i + 1) bs)
unfolding lines_of
lines_of-feed bs i h =
    let parts = cond_some (nat_lt (position_or_len is_feed bs) (length bs)) (position_or_len is_feed bs) i h in
    let P : ℕ → Type 0 = λ k. k < length bs in
    ap lines_of_parts (parts_of-first bs i (parts.1) (subst P (parts.1) (ltb-true (position_or_len is_feed bs) (length bs) parts.0)))
    ∙ lines_of_parts-first (take i bs) (drop (i + 1) bs)

-- a line with a character isn't empty
not_empty : (n : ℕ) → (suc n == 0) ≡ false
not_empty n = search (rules, tests)

pub lines_of-whole : (bs : List ℕ) → 0 < length bs → position is_feed bs ≡ None → lines_of bs ≡ bs ∷ []
unfolding lines_of
lines_of-whole [] h none = absurd (omega (arith, h))
lines_of-whole (b ∷ bs) h none = ap lines_of_parts (parts_of-last b bs (ltb-false (position_or_len is_feed (b ∷ bs)) (length (b ∷ bs)) (by _ (nat_lt (position_or_len is_feed (b ∷ bs)) (length (b ∷ bs))) none)))
    ∙ ap (λ v. if v then [] else (b ∷ bs) ∷ []) (not_empty (length bs))
  where
    by : (x : ℕ) (v : Bool) → cond v (Some x) None ≡ None → v ≡ false
    by x true e = cc
    by x false e = refl

-- no text has no line
pub no_lines : lines_of [] ≡ []
unfolding lines_of
no_lines = refl

-- an entry joins the last of the sections
pub with_entry-last : (ss : List SectionText) (s : SectionText) (e : EntryText)
    → with_entry (ss ++ s ∷ []) e ≡ ss ++ record s { entries = s.entries ++ e ∷ [] } ∷ []
with_entry-last [] s e = refl
with_entry-last (x ∷ []) s e = refl
with_entry-last (x ∷ y ∷ ss) s e = ap (λ r. x ∷ r) (with_entry-last (y ∷ ss) s e)
