-- The tokens lie in the text in order, with blanks and comments alone between them.
use Rattle.std.proofs.Common.{◌≡◌, ℕ, zero, suc, ◌+◌, ◌-◌, ◌≤◌, ◌<◌, Bool, true, false, cond, ◌||◌, ◌&&◌, ◌==◌, List, [], ◌∷◌, ◌++◌, length, take, drop, Option, Some, None, refl, sym, ap, subst, ◌∙◌, arith, inl, inr, append_assoc, length-append, length-drop}
use Rattle.std.specs.List.{prefix_len, count_by}
use Rattle.std.specs.Prelude.{nat_le}
use Rattle.std.specs.Char.{is_ascii_alphabetic, is_ascii_digit, is_ascii_alphanumeric}
use Rattle.std.specs.Int.{is_in_range}
use Rattle.std.proofs.lemmas.List.{take-append-drop, append-nil}
use Rattle.std.proofs.lemmas.Bool.{or_left, and_parts}
use Rattle.std.proofs.lemmas.Option.{same_Some}
use Rattle.std.proofs.lemmas.List.Sums.{prefix_len-le-length}
use Rattle.cse_syntax_tree.specs.declared.token.Kind.{Kind}
use Rattle.cse_syntax_tree.specs.declared.token.Mark.{Mark}
use Rattle.cse_syntax.specs.declared.lexer.Gap.{Gap}
use Rattle.cse_syntax.specs.declared.lexer.Gap.TheVariants as g
use Rattle.cse_syntax.specs.Loop.{snoc}
use Rattle.cse_syntax.specs.Text.{begins, is_blank, gap_after, or_else, skip, mark_len, is_word_byte, symbol, symbol_at, is_inside, is_start, text_len, token_at, Piece, goes_on, next_piece, pieces_from, pieces_of}
use Rattle.cse_syntax.specs.Source.{Covers, IsCovered}
use Rattle.cse_syntax.proofs.Steps.{bind_some, if_some, test_some}

-- ---- gaps

-- what is skipped, alone
abbrev GapTo : Gap → List ℕ → List ℕ → Type 0
GapTo state text rest = (gap : List ℕ) × (text ≡ gap ++ rest) × (skip state gap ≡ Some [])

-- a byte that doesn't lead to a second `/` is the same whatever comes next
same_turn : (after second : Gap) (p q r x y : Bool) (a b : Gap) → cond p (Some a) (cond q (Some b) (cond (r && x) (Some second) None)) ≡ Some after → (second ≡ after → x ≡ y)
    → cond p (Some a) (cond q (Some b) (cond (r && y) (Some second) None)) ≡ Some after
same_turn after second true q r x y a b e s = e
same_turn after second false true r x y a b e s = e
same_turn after second false false true true y a b e s = rw (← s (same_Some _ _ e)) e
same_turn after second false false true false y a b e s = absurd cc
same_turn after second false false false x y a b e s = absurd cc

same_front : (gap rest bs : List ℕ) → bs ≡ gap ++ rest → skip g.Slash gap ≡ Some [] → begins 47 bs ≡ begins 47 gap
same_front [] rest bs e s = absurd cc
same_front (c ∷ gap) rest bs e s = ap (begins 47) e

slash_front : (after : Gap) (gap rest bs : List ℕ) → bs ≡ gap ++ rest → skip after gap ≡ Some [] → g.Slash ≡ after → begins 47 bs ≡ begins 47 gap
slash_front after gap rest bs e s i = same_front gap rest bs e (subst (λ (a : Gap). skip a gap ≡ Some []) (sym i) s)

one_more : (state after : Gap) (b : ℕ) (bs rest : List ℕ) → gap_after state b (begins 47 bs) ≡ Some after → GapTo after bs rest → GapTo state (b ∷ bs) rest
one_more g.Between after b bs rest t h =
    let s = same_turn after g.Slash (b == 123) (is_blank b) (b == 47) (begins 47 bs) (begins 47 h.0) (g.Braces 0) g.Between t (slash_front after h.0 rest bs h.1 h.2) in
    (b ∷ h.0, ap (λ (r : List ℕ). b ∷ r) h.1, rw s h.2)
one_more g.Slash after b bs rest t h = (b ∷ h.0, ap (λ (r : List ℕ). b ∷ r) h.1, subst (λ (a : Gap). skip a h.0 ≡ Some []) (sym (same_Some _ _ t)) h.2)
one_more g.Line after b bs rest t h = (b ∷ h.0, ap (λ (r : List ℕ). b ∷ r) h.1, rw t h.2)
one_more (g.Braces zero) after b bs rest t h = (b ∷ h.0, ap (λ (r : List ℕ). b ∷ r) h.1, rw t h.2)
one_more (g.Braces (suc n)) after b bs rest t h = (b ∷ h.0, ap (λ (r : List ℕ). b ∷ r) h.1, rw t h.2)

never_none : (x y : Bool) (a b c : Gap) → cond x (Some a) (cond y (Some b) (Some c)) ≡ None → ⊥
never_none true y a b c e = absurd cc
never_none false true a b c e = absurd cc
never_none false false a b c e = absurd cc

in_line : (x : Bool) (a b : Gap) → cond x (Some a) (Some b) ≡ None → ⊥
in_line true a b e = absurd cc
in_line false a b e = absurd cc

-- The front of a text, by what its first byte does.
abbrev Skips : Gap → ℕ → List ℕ → List ℕ → Option Gap → Type 0
Skips state b bs rest o = or_else o (λ d. skip d bs) (Some (b ∷ bs)) ≡ Some rest → gap_after state b (begins 47 bs) ≡ o → GapTo state (b ∷ bs) rest

gap_before : (text : List ℕ) (state : Gap) (rest : List ℕ) → skip state text ≡ Some rest → GapTo state text rest
gap_before [] g.Between rest e = ([], same_Some _ _ e, refl)
gap_before [] g.Slash rest e = absurd cc
gap_before [] g.Line rest e = ([], same_Some _ _ e, refl)
gap_before [] (g.Braces n) rest e = absurd cc
gap_before (b ∷ bs) g.Between rest e =
    let by : (o : Option Gap) → Skips g.Between b bs rest o = λ o. elim o as (λ o. Skips g.Between b bs rest o) [
      | None ↦ λ s t. ([], same_Some _ _ s, refl)
      | Some d ↦ λ s t. one_more g.Between d b bs rest t (gap_before bs d rest s)
    ] in by (gap_after g.Between b (begins 47 bs)) e refl
gap_before (b ∷ bs) g.Slash rest e = one_more g.Slash g.Line b bs rest refl (gap_before bs g.Line rest e)
gap_before (b ∷ bs) g.Line rest e =
    let by : (o : Option Gap) → Skips g.Line b bs rest o = λ o. elim o as (λ o. Skips g.Line b bs rest o) [
      | None ↦ λ s t. absurd (in_line (b == 10) g.Between g.Line t)
      | Some d ↦ λ s t. one_more g.Line d b bs rest t (gap_before bs d rest s)
    ] in by (gap_after g.Line b (begins 47 bs)) e refl
gap_before (b ∷ bs) (g.Braces zero) rest e =
    let by : (o : Option Gap) → Skips (g.Braces zero) b bs rest o = λ o. elim o as (λ o. Skips (g.Braces zero) b bs rest o) [
      | None ↦ λ s t. absurd (never_none (b == 123) (b == 125) (g.Braces 1) g.Between (g.Braces 0) t)
      | Some d ↦ λ s t. one_more (g.Braces zero) d b bs rest t (gap_before bs d rest s)
    ] in by (gap_after (g.Braces zero) b (begins 47 bs)) e refl
gap_before (b ∷ bs) (g.Braces (suc n)) rest e =
    let by : (o : Option Gap) → Skips (g.Braces (suc n)) b bs rest o = λ o. elim o as (λ o. Skips (g.Braces (suc n)) b bs rest o) [
      | None ↦ λ s t. absurd (never_none (b == 123) (b == 125) (g.Braces (suc (suc n))) (g.Braces n) (g.Braces (suc n)) t)
      | Some d ↦ λ s t. one_more (g.Braces (suc n)) d b bs rest t (gap_before bs d rest s)
    ] in by (gap_after (g.Braces (suc n)) b (begins 47 bs)) e refl

-- ---- tokens

some_run : (p : ℕ → Bool) (b : ℕ) (bs : List ℕ) → p b ≡ true → 0 < prefix_len p (b ∷ bs)
some_run p b bs h = let one : prefix_len p (b ∷ bs) ≡ 1 + prefix_len p bs = rw h refl in omega (arith, one)

either : (x y z : Bool) → (y || z) ≡ true → ((x || y) || z) ≡ true
either x true z e = elim x as (λ v. ((v || true) || z) ≡ true) [ true ↦ refl | false ↦ refl ]
either true false z e = refl
either false false z e = e

pub letter_is : (b : ℕ) → is_ascii_alphabetic b ≡ true → is_word_byte b ≡ true
letter_is b h = or_left (is_ascii_alphanumeric b) (b == 95) (either (is_in_range 48 57 b) (is_in_range 65 90 b) (is_in_range 97 122 b) h)

pub begins_some : (c : ℕ) (bs : List ℕ) → begins c bs ≡ true → 0 < length bs
begins_some c [] e = absurd cc
begins_some c (b ∷ bs) e = omega arith

-- A token's length, where this many bytes are left.
abbrev Fits : ℕ → ℕ → Type 0
Fits total n = (0 < n) × (n ≤ total)

symbol_fits : (b : ℕ) (bs : List ℕ) (found : ℕ × Mark) → symbol_at b bs ≡ Some found → Fits (suc (length bs)) found.0
symbol_fits b bs found e =
    let two : (mark : Mark) → (c : ℕ) → begins c bs ≡ true → Some (2, mark) ≡ Some found → Fits (suc (length bs)) found.0 = λ mark c h i. subst (λ (t : ℕ × Mark). Fits (suc (length bs)) t.0) (same_Some _ _ i) (omega arith, omega (arith, begins_some c bs h)) in
    let one : (mark : Mark) → Some (1, mark) ≡ Some found → Fits (suc (length bs)) found.0 = λ mark i. subst (λ (t : ℕ × Mark). Fits (suc (length bs)) t.0) (same_Some _ _ i) (omega arith, omega arith) in
    elim (if_some (b == 60) _ _ _ e) [
      | inl h ↦
          elim (if_some (begins 62 bs) _ _ _ h.1) [
            | inl i ↦ two _ 62 i.0 i.1
            | inr i ↦ elim (if_some (begins 61 bs) _ _ _ i.1) [ inl k ↦ two _ 61 k.0 k.1 | inr k ↦ one _ k.1 ]
          ]
      | inr h ↦
          elim (if_some (b == 62) _ _ _ h.1) [
            | inl i ↦ elim (if_some (begins 61 bs) _ _ _ i.1) [ inl k ↦ two _ 61 k.0 k.1 | inr k ↦ one _ k.1 ]
            | inr i ↦ let m = bind_some (symbol b) _ _ i.1 in one m.0 m.2
          ]
    ]

text_fits : (quote : ℕ) (bs : List ℕ) (n : ℕ) → text_len quote bs ≡ Some n → Fits (suc (length bs)) n
text_fits quote bs n e =
    let k = prefix_len (is_inside quote) bs in
    let t = test_some (begins quote (drop k bs) && nat_le (count_by is_start (take k bs)) 255) (k + 2) n e in
    let b = and_parts (begins quote (drop k bs)) (nat_le (count_by is_start (take k bs)) 255) t.0 in
    let some : 0 < length (drop k bs) = begins_some quote (drop k bs) b.0 in
    subst (λ (n : ℕ). Fits (suc (length bs)) n) (same_Some _ _ t.1) (omega arith, omega (arith, length-drop k bs))

pub takes_some : (bs : List ℕ) (found : ℕ × Kind) → token_at bs ≡ Some found → Fits (length bs) found.0
unfolding token_at
takes_some [] found e = absurd cc
takes_some (b ∷ bs) found e =
    let as_found : (t : ℕ × Kind) → Some t ≡ Some found → Fits (suc (length bs)) t.0 → Fits (suc (length bs)) found.0 = λ t i f. subst (λ (t : ℕ × Kind). Fits (suc (length bs)) t.0) (same_Some _ _ i) f in
    elim (if_some (is_ascii_alphabetic b) _ _ _ e) [
      | inl h ↦ as_found _ h.1 (some_run is_word_byte b bs (letter_is b h.0), prefix_len-le-length is_word_byte (b ∷ bs))
      | inr h ↦
          elim (if_some (is_ascii_digit b) _ _ _ h.1) [
            | inl i ↦ as_found _ i.1 (some_run is_ascii_digit b bs i.0, prefix_len-le-length is_ascii_digit (b ∷ bs))
            | inr i ↦
                elim (if_some (b == 39 || b == 34) _ _ _ i.1) [
                  | inl k ↦ let n = bind_some (text_len b bs) _ _ k.1 in as_found _ n.2 (text_fits b bs n.0 n.1)
                  | inr k ↦ let n = bind_some (symbol_at b bs) _ _ k.1 in as_found _ n.2 (symbol_fits b bs n.0 n.1)
                ]
          ]
    ]

-- the tokens of what is left of a text of this length, the first at its front
abbrev AtFront : ℕ → List ℕ → List Piece → Type 0
AtFront total text [] = text ≡ []
AtFront total text (p ∷ ps) = (behind : List ℕ) × (text ≡ p.text ++ behind) × (p.start ≡ total - length text) × (p.end ≡ p.start + length p.text) × Covers p.end behind ps

after_gap : (place total : ℕ) (text rest : List ℕ) (ps : List Piece) → length text ≤ total → place ≡ total - length text → skip g.Between text ≡ Some rest → AtFront total rest ps → Covers place text ps
after_gap place total text rest [] le at s f = s ∙ ap Some f
after_gap place total text rest (p ∷ ps) le at s f =
    let g = gap_before text g.Between rest s in
    let len : length text ≡ length g.0 + length rest = ap length g.1 ∙ length-append g.0 rest in
    (g.0, f.0, g.1 ∙ ap (λ (r : List ℕ). g.0 ++ r) f.1, g.2, omega (arith, f.2, len), f.3, f.4)

-- the list that was found before, and the tokens of what is left
abbrev Ends : ℕ → List Piece → List ℕ → List Piece → Type 0
Ends total found text all = (ps : List Piece) × (all ≡ found ++ ps) × AtFront total text ps

goes_on_is : (text : List ℕ) → goes_on text ≡ true → 0 < length text
goes_on_is [] h = absurd cc
goes_on_is (b ∷ bs) h = omega arith

nothing_left : (text : List ℕ) → goes_on text ≡ false → text ≡ []
nothing_left [] h = refl
nothing_left (b ∷ bs) h = absurd cc

abbrev read : List Piece → List ℕ → Option (List Piece × List ℕ)
read all rest = Some (all, rest)

pair_is : {a x : List Piece} {b y : List ℕ} → read a b ≡ read x y → a ≡ x
pair_is e = ap (λ (q : List Piece × List ℕ). q.0) (same_Some _ _ e)

abbrev next : Piece → List ℕ → Option (Piece × List ℕ)
next p rest = Some (p, rest)

next_is : {a x : Piece} {b y : List ℕ} → next a b ≡ next x y → (a ≡ x) × (b ≡ y)
next_is e = let p = same_Some _ _ e in (ap (λ (q : Piece × List ℕ). q.0) p, ap (λ (q : Piece × List ℕ). q.1) p)

covers_from : (n total : ℕ) (found all : List Piece) (text rest : List ℕ) → length text ≤ total → length text ≤ n → pieces_from total n found text ≡ Some (all, rest) → Ends total found text all
unfolding next_piece
covers_from zero total found all [] rest le enough e = ([], sym (pair_is e) ∙ sym (append-nil found), refl)
covers_from zero total found all (b ∷ bs) rest le enough e = absurd (omega arith)
covers_from (suc n) total found all text rest le enough e =
    elim (if_some (goes_on text) _ _ _ e) [
      | inl h ↦
          let a = bind_some (next_piece total text) _ _ h.1 in
          let t = bind_some (token_at text) _ _ a.1 in
          let s = bind_some (skip g.Between (drop t.0.0 text)) _ _ t.2 in
          let p = next_is s.2 in
          let fits = takes_some text t.0 t.1 in
          let len : length text ≡ length (take t.0.0 text) + length (drop t.0.0 text) = ap length (sym (take-append-drop t.0.0 text)) ∙ length-append (take t.0.0 text) (drop t.0.0 text) in
          let dropped : length (drop t.0.0 text) ≡ length text - t.0.0 = length-drop t.0.0 text in
          let gap = gap_before (drop t.0.0 text) g.Between s.0 s.1 in
          let gap_len : length (drop t.0.0 text) ≡ length gap.0 + length s.0 = ap length gap.1 ∙ length-append gap.0 s.0 in
          let some : 0 < t.0.0 = fits.0 in
          let within : t.0.0 ≤ length text = fits.1 in
          let taken : length (take t.0.0 text) ≡ t.0.0 = omega (arith, len, dropped, within) in
          let same_rest : length s.0 ≡ length a.0.1 = ap length p.1 in
          let behind : length a.0.1 + 1 ≤ length text = omega (arith, same_rest, gap_len, dropped, some, within) in
          let go = covers_from n total (snoc found a.0.0) all a.0.1 rest (omega (arith, behind)) (omega (arith, behind)) a.2 in
          let start : total - length text ≡ a.0.0.start = ap (λ (q : Piece). q.start) p.0 in
          let end : total - length text + t.0.0 ≡ a.0.0.end = ap (λ (q : Piece). q.end) p.0 in
          let text_len_is : length (take t.0.0 text) ≡ length a.0.0.text = ap (λ (q : Piece). length q.text) p.0 in
          let here : AtFront total text (a.0.0 ∷ go.0) = (
            drop t.0.0 text,
            sym (take-append-drop t.0.0 text) ∙ ap (λ (q : Piece). q.text ++ drop t.0.0 text) p.0,
            sym start,
            omega (arith, start, end, text_len_is, taken),
            after_gap a.0.0.end total (drop t.0.0 text) s.0 go.0 (omega (arith, len)) (omega (arith, end, dropped, within, le)) s.1 (subst (λ (r : List ℕ). AtFront total r go.0) (sym p.1) go.2),
          ) in
          (a.0.0 ∷ go.0, go.1 ∙ append_assoc found (a.0.0 ∷ []) go.0, here)
      | inr h ↦ ([], sym (pair_is h.1) ∙ sym (append-nil found), nothing_left text h.0)
    ]

pub mark_within : (text : List ℕ) → mark_len text ≤ length text
mark_within [] = omega arith
mark_within (a ∷ []) = elim (a == 239) as (λ x. cond (x && false) 3 0 ≤ 1) [ true ↦ omega arith | false ↦ omega arith ]
mark_within (a ∷ b ∷ []) =
    elim (a == 239) as (λ x. cond (x && ((b == 187) && false)) 3 0 ≤ 2) [
      | true ↦ elim (b == 187) as (λ y. cond (y && false) 3 0 ≤ 2) [ true ↦ omega arith | false ↦ omega arith ]
      | false ↦ omega arith
    ]
mark_within (a ∷ b ∷ c ∷ text) =
    let by : (x : Bool) → cond x 3 0 ≤ suc (suc (suc (length text))) = λ x. elim x as (λ x. cond x 3 0 ≤ suc (suc (suc (length text)))) [ true ↦ omega arith | false ↦ omega arith ] in
    by ((a == 239) && ((b == 187) && (c == 191)))

-- the tokens of a text lie in it
pub covers : (text : List ℕ) (ps : List Piece) → pieces_of text ≡ Some ps → IsCovered text ps
unfolding pieces_of
covers text ps e =
    let front = drop (mark_len text) text in
    let first = bind_some (skip g.Between (drop (mark_len text) text)) _ _ e in
    let all = bind_some (pieces_from (length text) (length first.0) [] first.0) _ _ first.2 in
    let gap = gap_before (drop (mark_len text) text) g.Between first.0 first.1 in
    let len : length (drop (mark_len text) text) ≡ length gap.0 + length first.0 = ap length gap.1 ∙ length-append gap.0 first.0 in
    let dropped : length (drop (mark_len text) text) ≡ length text - mark_len text = length-drop (mark_len text) text in
    let within : mark_len text ≤ length text = mark_within text in
    let go = covers_from (length first.0) (length text) [] all.0.0 first.0 all.0.1 (omega (arith, len, dropped)) (omega arith) all.1 in
    let same : go.0 ≡ ps = sym go.1 ∙ same_Some _ _ all.2 in
    subst (Covers (mark_len text) (drop (mark_len text) text)) same (after_gap (mark_len text) (length text) (drop (mark_len text) text) first.0 go.0 (omega (arith, dropped)) (omega (arith, dropped, within)) first.1 go.2)

pub begins_one : (q : ℕ) (bs : List ℕ) → begins q (take 1 bs) ≡ begins q bs
begins_one q [] = refl
begins_one q (b ∷ bs) = refl
