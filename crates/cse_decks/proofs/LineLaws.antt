-- A text is its lines one after the other: a line in front is cut off, and lines that were cut make the text.
use Rattle.std.proofs.Common.{◌≡◌, ℕ, ◌+◌, Bool, true, false, eqb, List, [], ◌∷◌, ◌++◌, refl, ap, sym, ◌∙◌}
use Rattle.std.specs.List.{AllByRecursion, flat_map, list_all}
use Rattle.std.proofs.lemmas.Bool.{cond-true, cond-false, and_parts, eqb-true}
use Rattle.cse_image_parts.specs.Image.{ArrayLists}
use Rattle.cse_value.specs.Gathering.{line}
use Rattle.cse_decks.specs.Loading.{Cut, joined, cut, Reading, line_read, go_on, read_from, read_text}

-- ---- all of a list

pub all_from : {A : Type 0} (P : A → Type 0) (test : A → Bool) → ((x : A) → test x ≡ true → P x) → (xs : List A) → list_all test xs ≡ true → AllByRecursion P xs
all_from P test h [] k = tt
all_from P test h (x ∷ xs) k = let parts = and_parts (test x) (list_all test xs) k in (h x parts.0, all_from P test h xs parts.1)

-- ---- a line in front

-- no LF is in the text
abbrev pub OneLine : List ℕ → Type 0
OneLine l = AllByRecursion (λ c. eqb c 10 ≡ false) l

abbrev first_line : List ℕ → Cut → Cut
first_line l more = record { lines = l ∷ more.lines; rest = more.rest }

cut_line : (l more : List ℕ) → OneLine l → cut (line l ++ more) ≡ first_line l (cut more)
cut_line [] more h = refl
cut_line (c ∷ cs) more h =
    let text = line cs ++ more in
    cond-false (eqb c 10) (first_line [] (cut text)) (joined c (cut text).lines (cut text).rest) h.0
    ∙ ap (λ (r : Cut). joined c r.lines r.rest) (cut_line cs more h.1)

-- a text is read line by line
pub read_line : (arrays : List ArrayLists) (r : Reading) (n : ℕ) (l more : List ℕ) → OneLine l
    → read_text arrays r n (line l ++ more) ≡ go_on n (line_read arrays r l) (λ (s : Reading). read_text arrays s (n + 1) more)
read_line arrays r n l more h = ap (λ (c : Cut). read_from arrays r n c.lines c.rest) (cut_line l more h)

-- ---- lines that were cut

-- the text of these lines, and what stands behind the last LF
abbrev pub uncut : List (List ℕ) → List ℕ → List ℕ
uncut lines rest = flat_map line lines ++ rest

uncut-joined : (c : ℕ) (lines : List (List ℕ)) (rest : List ℕ) → uncut (joined c lines rest).lines (joined c lines rest).rest ≡ c ∷ uncut lines rest
uncut-joined c [] rest = refl
uncut-joined c (l ∷ ls) rest = refl

uncut_by : (c : ℕ) (cs : List ℕ) (b : Bool) → eqb c 10 ≡ b → uncut (cut cs).lines (cut cs).rest ≡ cs → uncut (cut (c ∷ cs)).lines (cut (c ∷ cs)).rest ≡ c ∷ cs
uncut_by c cs true e h =
    ap (λ (r : Cut). uncut r.lines r.rest) (cond-true (eqb c 10) (first_line [] (cut cs)) (joined c (cut cs).lines (cut cs).rest) e)
    ∙ (ap (λ l. 10 ∷ l) h ∙ ap (λ (d : ℕ). d ∷ cs) (sym (eqb-true c 10 e)))
uncut_by c cs false e h =
    ap (λ (r : Cut). uncut r.lines r.rest) (cond-false (eqb c 10) (first_line [] (cut cs)) (joined c (cut cs).lines (cut cs).rest) e)
    ∙ (uncut-joined c (cut cs).lines (cut cs).rest ∙ ap (λ l. c ∷ l) h)

pub uncut-cut : (text : List ℕ) → uncut (cut text).lines (cut text).rest ≡ text
uncut-cut [] = refl
uncut-cut (c ∷ cs) = uncut_by c cs (eqb c 10) refl (uncut-cut cs)
