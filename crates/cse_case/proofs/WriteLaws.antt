-- Laws of written lines.
use Rattle.std.proofs.Common.{◌≡◌, ℕ, ◌+◌, ◌-◌, ◌<◌, ◌≤◌, false, eqb, List, [], ◌∷◌, ◌++◌, length, get_or, set, take, drop, refl, ap, sym, subst, ◌∙◌, arith, take-add, get_or-drop, length-drop, take_all, inl, inr}
use Rattle.std.specs.Prelude.{encode_utf8_all}
use Rattle.std.proofs.lemmas.Bool.{cases_lt}
use Rattle.std.specs.Str.{IsAscii}
use Rattle.std.proofs.lemmas.Str.{encodes-IsAscii}
use Rattle.std.proofs.Math.Seq.{take-append-add}
use borrow.Rule.Slice.PartMut.{put_mid, post_of}
use Rattle.std.proofs.lemmas.List.{take-append-le, take_rest, take_more, ext_get_or, get_or-set_other, get_or-set_same, get_or-take, length-take-le}
use Rattle.cse_lemmas.proofs.Texts.{IsAscii-from_bound}
use Rattle.cse_case.specs.Bytes.{columns_by}
use Rattle.cse_case.proofs.BytesLaws.{ascii-columns_by}
use Rattle.cse_case.specs.Written.{onto_trimmed, without_blanks, kept_columns}

without_blanks-blank : (xs : List ℕ) → without_blanks (xs ++ 32 ∷ []) ≡ without_blanks xs
without_blanks-blank [] = refl
without_blanks-blank (x ∷ xs) = ap (onto_trimmed x) (without_blanks-blank xs)

without_blanks-other : (xs : List ℕ) (c : ℕ) → eqb c 32 ≡ false → without_blanks (xs ++ c ∷ []) ≡ xs ++ c ∷ []
without_blanks-other [] c h = rw h refl
without_blanks-other (x ∷ []) c h = rw h refl
without_blanks-other (x ∷ y ∷ xs) c h = ap (onto_trimmed x) (without_blanks-other (y ∷ xs) c h)

-- the columns up to n are kept, and past them there are blanks
pub record Trimmed (columns : List ℕ) (own n : ℕ) : Type 0 where
  pub low : own ≤ n
  pub high : n ≤ length columns
  pub same : without_blanks (drop own columns) ≡ without_blanks (take (n - own) (drop own columns))

pub Trimmed-all : (columns : List ℕ) (own : ℕ) → own ≤ length columns → Trimmed columns own (length columns)
Trimmed-all columns own h = record {
  low = h;
  high = omega arith;
  same = ap without_blanks (sym (take_all (length columns - own) (drop own columns) (omega (arith, length-drop own columns))));
}

one_more : (columns : List ℕ) (own n : ℕ) → own < n → n ≤ length columns → take (n - own) (drop own columns) ≡ take (n - 1 - own) (drop own columns) ++ get_or columns (n - 1) 0 ∷ []
one_more columns own n low high =
    let e : n - own ≡ n - 1 - own + 1 = omega arith in
    let at : own + (n - 1 - own) ≡ n - 1 = omega arith in
    rw e (take_more (drop own columns) (n - 1 - own) 0 (omega (arith, length-drop own columns)) ∙ rw (get_or-drop, at) refl)

pub Trimmed-less : (columns : List ℕ) (own n : ℕ) → own < n → get_or columns (n - 1) 0 ≡ 32 → Trimmed columns own n → Trimmed columns own (n - 1)
Trimmed-less columns own n low blank t = record {
  low = omega arith;
  high = omega (arith, t.high);
  same = t.same ∙ ap without_blanks (one_more columns own n low t.high) ∙ rw blank (without_blanks-blank (take (n - 1 - own) (drop own columns)));
}

pub kept_at : (columns : List ℕ) (own n : ℕ) → Trimmed columns own n → (own < n → eqb (get_or columns (n - 1) 0) 32 ≡ false) → take n columns ≡ kept_columns own columns
kept_at columns own n t last =
    let e : n ≡ own + (n - own) = omega (arith, t.low) in
    let rest : take (n - own) (drop own columns) ≡ without_blanks (drop own columns) =
    elim (cases_lt own n) [
      | inl low ↦
          let cut = one_more columns own n low t.high in
          cut ∙ sym (without_blanks-other (take (n - 1 - own) (drop own columns)) (get_or columns (n - 1) 0) (last low)) ∙ ap without_blanks (sym cut) ∙ sym t.same
      | inr high ↦
          let none : n - own ≡ 0 = omega arith in
          ap (λ k. take k (drop own columns)) none ∙ ap (λ k. without_blanks (take k (drop own columns))) (sym none) ∙ sym t.same
    ] in
    ap (λ k. take k columns) e ∙ take-add own (n - own) columns ∙ ap (λ l. take own columns ++ l) rest

-- ASCII columns are their bytes
pub front_ascii : (columns bytes : List ℕ) (n : ℕ) → n ≤ length columns → n ≤ length bytes → ((k : ℕ) → k < n → get_or bytes k 0 ≡ get_or columns k 0) → IsAscii (take n columns)
    → take n bytes ≡ encode_utf8_all (take n columns)
front_ascii columns bytes n a b same ascii =
    let la : length (take n columns) ≡ n = length-take-le n columns a in
    let lb : length (take n bytes) ≡ n = length-take-le n bytes b in
    ext_get_or 0 (take n bytes) (take n columns) (lb ∙ sym la) (λ k h.
    let low : k < n = omega arith in
    get_or-take n bytes k 0 low ∙ same k low ∙ sym (get_or-take n columns k 0 low))
    ∙ sym (encodes-IsAscii (take n columns) ascii)

-- bytes of ASCII, each as it is, are their columns in UTF-8
pub own_bytes : (ascii beside bytes : List ℕ) (greatest : ℕ) → length ascii ≤ length bytes → ((k : ℕ) → k < length ascii → get_or bytes k 0 ≡ get_or ascii k 0)
    → ((k : ℕ) → k < length ascii → get_or ascii k 0 ≤ greatest) → greatest < 128 → take (length (columns_by ascii beside)) bytes ≡ encode_utf8_all (columns_by ascii beside)
own_bytes ascii beside bytes greatest room same low few =
    let n = length ascii in
    let all : take n ascii ≡ ascii = take_all n ascii (omega arith) in
    let own : IsAscii ascii = IsAscii-from_bound ascii greatest low few in
    let are : columns_by ascii beside ≡ ascii = ascii-columns_by ascii beside own in
    ap (λ l. take (length l) bytes) are ∙ front_ascii ascii bytes n (omega arith) room same (subst IsAscii (sym all) own) ∙ ap encode_utf8_all (all ∙ sym are)

-- and its byte behind theirs
pub bytes_more : (ascii bytes : List ℕ) (i : ℕ) → i < length bytes → ((k : ℕ) → k < i → get_or bytes k 0 ≡ get_or ascii k 0)
    → (k : ℕ) → k < i + 1 → get_or (set bytes i (get_or ascii i 0)) k 0 ≡ get_or ascii k 0
bytes_more ascii bytes i room before k h = elim (cases_lt k i) [
  | inl below ↦ get_or-set_other bytes i k (get_or ascii i 0) 0 (λ e. absurd (omega arith)) ∙ before k below
  | inr above ↦ let same : k ≡ i = omega arith in rw same (get_or-set_same bytes i (get_or ascii i 0) 0 room)
]

-- what is left of bytes from a place on
pub length-rest : (xs : List ℕ) (a : ℕ) → length (take (length xs - a) (drop a xs)) ≡ length xs - a
length-rest xs a = ap length (take_rest xs a) ∙ length-drop a xs

-- the front of bytes after some were written from a place on
pub put_after : (xs ys : List ℕ) (a k n : ℕ) → a ≤ length xs → n ≤ length ys → take (a + n) (put_mid a k xs ys) ≡ take a xs ++ take n ys
put_after xs ys a k n within fits =
    ap (λ j. take (j + n) (take a xs ++ (ys ++ post_of a k xs))) (sym (length-take-le a xs within))
    ∙ take-append-add (take a xs) (ys ++ post_of a k xs) n ∙ ap (λ l. take a xs ++ l) (take-append-le n ys (post_of a k xs) fits)
