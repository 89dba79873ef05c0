-- Where a text may be cut, and a loop over its tokens.
use Rattle.std.proofs.Common.{◌≡◌, ℕ, ◌+◌, ◌-◌, ◌≤◌, ◌<◌, true, false, List, [], ◌∷◌, length, take, drop, get_or, slice_get, Some, None, refl, sym, ap, ◌∙◌, subst, arith, IsUtf8}
use Rattle.std.specs.Str.{IsCharBoundary}
use Rattle.std.proofs.lemmas.Str.{IsCharBoundary-after_ascii, IsCharBoundary-end, IsCharBoundary-past_char}
use Rattle.std.proofs.lemmas.Bool.{cases_lt, eqb-true}
use Rattle.std.proofs.Common.{inl, inr}
use Rattle.std.proofs.lemmas.List.{take_rest}
use Rattle.cse_syntax.specs.declared.lexer.Gap.TheVariants as g
use Rattle.cse_syntax.specs.Text.{begins, skip, mark_len, Piece, goes_on, pieces_from, pieces_of}

pub ascii_cut : (bs : List ℕ) (n : ℕ) → IsUtf8 bs → 0 < n → n ≤ length bs → get_or bs (n - 1) 0 < 128 → IsCharBoundary bs n
ascii_cut bs n text pos le ascii =
    let e : n - 1 + 1 ≡ n = omega arith in
    subst (IsCharBoundary bs) e (IsCharBoundary-after_ascii bs (n - 1) text (omega arith) ascii)

-- the same, where the end of the text is a place to cut anyway
pub ascii_cut_or_end : (bs : List ℕ) (n : ℕ) → IsUtf8 bs → 0 < n → n ≤ length bs → (0 < n → n < length bs → get_or bs (n - 1) 0 < 128) → IsCharBoundary bs n
ascii_cut_or_end bs n text pos le ascii =
    elim (cases_lt n (length bs)) [
      | inl lt ↦ ascii_cut bs n text pos le (ascii pos lt)
      | inr ge ↦ let e : length bs ≡ n = omega arith in subst (IsCharBoundary bs) e (IsCharBoundary-end bs)
    ]

mark_is : (bs : List ℕ) → begins 239 bs ≡ true → begins 187 (drop 1 bs) ≡ true → begins 191 (drop 2 bs) ≡ true → bs ≡ 239 ∷ 187 ∷ 191 ∷ drop 3 bs
mark_is [] x y z = absurd cc
mark_is (a ∷ []) x y z = absurd cc
mark_is (a ∷ b ∷ []) x y z = absurd cc
mark_is (a ∷ b ∷ c ∷ bs) x y z =
    let p : a ≡ 239 = eqb-true a 239 x in
    let q : b ≡ 187 = eqb-true b 187 y in
    let r : c ≡ 191 = eqb-true c 191 z in
    rw (p, q, r) refl

-- behind a byte order mark a text may be cut
pub mark_cut : (bs : List ℕ) → IsUtf8 bs → begins 239 bs ≡ true → begins 187 (drop 1 bs) ≡ true → begins 191 (drop 2 bs) ≡ true → IsCharBoundary bs 3
unfolding lib.Utf8.encode
mark_cut bs text x y z = IsCharBoundary-past_char bs (drop 3 bs) 0 65279 (omega arith) text (mark_is bs x y z)

-- the same of what the code looks at
pub mark_cut_at : (bs rs : List ℕ) → rs ≡ bs → IsUtf8 bs → true ≡ begins 239 rs → true ≡ begins 187 (take (length rs - 1) (drop 1 rs)) → true ≡ begins 191 (take (length rs - 2) (drop 2 rs)) → IsCharBoundary bs 3
mark_cut_at bs rs e text x y z =
    mark_cut bs text (ap (begins 239) (sym e) ∙ sym x) (ap (λ (r : List ℕ). begins 187 (drop 1 r)) (sym e) ∙ ap (begins 187) (sym (take_rest rs 1)) ∙ sym y) (ap (λ (r : List ℕ). begins 191 (drop 2 r)) (sym e) ∙ ap (begins 191) (sym (take_rest rs 2)) ∙ sym z)

-- the first byte and those behind it
pub whole : (b : ℕ) (bs : List ℕ) → Some b ≡ slice_get bs 0 → b ∷ take (length bs - 1) (drop 1 bs) ≡ bs
whole b [] e = absurd cc
whole b (a ∷ bs) e =
    let p : b ≡ a = cc in
    ap (λ (r : List ℕ). b ∷ r) (take_rest (a ∷ bs) 1) ∙ ap (λ (x : ℕ). x ∷ bs) p

pub all_read : (text first rest : List ℕ) (found : List Piece) → skip g.Between (drop (mark_len text) text) ≡ Some first → pieces_from (length text) (length first) [] first ≡ Some (found, rest) → pieces_of text ≡ Some found
unfolding pieces_of
all_read text first rest found s e = rw (s, e) refl

pub none_read : (text first : List ℕ) → skip g.Between (drop (mark_len text) text) ≡ Some first → pieces_from (length text) (length first) [] first ≡ None → pieces_of text ≡ None
unfolding pieces_of
none_read text first s e = rw (s, e) refl

pub no_first : (text : List ℕ) → skip g.Between (drop (mark_len text) text) ≡ None → pieces_of text ≡ None
unfolding pieces_of
no_first text s = rw s refl

pub goes_on_there : (bs : List ℕ) → 0 < length bs → goes_on bs ≡ true
goes_on_there [] h = absurd (omega arith)
goes_on_there (b ∷ bs) h = refl

pub ends_there : (bs : List ℕ) → length bs ≡ 0 → goes_on bs ≡ false
ends_there [] h = refl
ends_there (b ∷ bs) h = absurd (omega arith)
