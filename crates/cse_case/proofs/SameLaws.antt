-- Laws of columns that are compared by their bytes.
use Rattle.std.proofs.Common.{◌≡◌, ℕ, ◌+◌, ◌^◌, ◌<◌, ◌≤◌, cond, eqb, bit_or, map, Bool, true, false, List, [], ◌∷◌, length, length-take-le, get_or, take, drop, zero, suc, refl, ap, sym, ◌∙◌, arith, inl, inr, subst}
use Rattle.std.specs.Simd.Lanes.{mask_l, zip2}
use Rattle.std.specs.Int.{from_le_bytes, to_le_bytes, w32}
use Rattle.std.specs.Str.{IsAscii, bytes_eq}
use Rattle.std.proofs.lemmas.Bool.{cases_lt, eqb-true, leb-false, lt-ltb}
use Rattle.std.proofs.lemmas.List.{get_or_past, take_all, take_more, take_more_same}
use Rattle.std.proofs.lemmas.Nat.{from_le_bytes-to_le_bytes_4, le_or_l, le_or_r}
use Rattle.std.proofs.lemmas.Simd.{get_or-zip2, length-zip2, none_from_empty_mask}
use Rattle.std.proofs.lemmas.Slice.Eq.{bytes_eq-Decides}
use Rattle.std.proofs.lemmas.Str.{IsAscii-append}
use Rattle.memchr.proofs.lemmas.LaneLemmas.{is_set}
use Rattle.cse_case.specs.Bytes.{columns_by}
use Rattle.cse_case.specs.Same.{IsSameFront, Tells}
use Rattle.cse_case.proofs.BytesLaws.{ascii-columns_by, column_at, part-columns_by}

-- bytes of which those that aren't ASCII set no bit of a mask
ascii_mask : (text : List ℕ) (n mask : ℕ) → length text ≡ n → mask ≡ mask_l (map is_set text) → mask ≡ 0 → IsAscii text
ascii_mask text n mask len m none k = elim (cases_lt k n) [
  | inl h ↦ leb-false 128 (get_or text k 0) (none_from_empty_mask is_set text 0 n 0 (omega (arith, len)) (ap (λ l. mask_l (map is_set l)) (take_all n text (omega (arith, len))) ∙ sym m ∙ none) k (omega arith) (omega arith))
  | inr h ↦ rw (get_or_past text k 0 (omega (arith, len))) (omega arith)
]

-- the same of bytes that are looked at all at once
pub all_ascii : (text : List ℕ) (n mask : ℕ) → length text ≡ n → mask ≡ mask_l (map is_set (take n text)) → eqb mask 0 ≡ true → IsAscii text
all_ascii text n mask len m none = ascii_mask text n mask len (m ∙ ap (λ l. mask_l (map is_set l)) (take_all n text (omega (arith, len)))) (eqb-true _ _ none)

-- so many bytes here, and as many there
abbrev pub both : ℕ → List ℕ → List ℕ → List ℕ
both n a b = zip2 bit_or (take n a) (take n b)

pub length-both : (n : ℕ) (a b : List ℕ) → length a ≡ n → length b ≡ n → length (both n a b) ≡ n
length-both n a b left right =
    let here : length (take n a) ≡ n = length-take-le n a (omega (arith, left)) in
    length-zip2 bit_or (take n a) (take n b) (here ∙ sym (length-take-le n b (omega (arith, right)))) ∙ here

both_at : (n : ℕ) (a b : List ℕ) (k : ℕ) → length a ≡ n → length b ≡ n → k < n → get_or (both n a b) k 0 ≡ bit_or (get_or a k 0) (get_or b k 0)
both_at n a b k left right h =
    ap (λ l. get_or (zip2 bit_or l (take n b)) k 0) (take_all n a (omega (arith, left))) ∙ ap (λ l. get_or (zip2 bit_or a l) k 0) (take_all n b (omega (arith, right)))
    ∙ get_or-zip2 bit_or a b k 0 0 0 (omega (arith, left, h)) (omega (arith, right, h))

pub left_ascii : (n mask : ℕ) (a b : List ℕ) → length a ≡ n → length b ≡ n → mask ≡ mask_l (map is_set (both n a b)) → eqb mask 0 ≡ true → IsAscii a
left_ascii n mask a b left right m none k = elim (cases_lt k n) [
  | inl h ↦ let low = ascii_mask (both n a b) n mask (length-both n a b left right) m (eqb-true _ _ none) k in omega (arith, low, both_at n a b k left right h, le_or_l (get_or a k 0) (get_or b k 0))
  | inr h ↦ rw (get_or_past a k 0 (omega (arith, left))) (omega arith)
]

pub right_ascii : (n mask : ℕ) (a b : List ℕ) → length a ≡ n → length b ≡ n → mask ≡ mask_l (map is_set (both n a b)) → eqb mask 0 ≡ true → IsAscii b
right_ascii n mask a b left right m none k = elim (cases_lt k n) [
  | inl h ↦ let low = ascii_mask (both n a b) n mask (length-both n a b left right) m (eqb-true _ _ none) k in omega (arith, low, both_at n a b k left right h, le_or_r (get_or a k 0) (get_or b k 0))
  | inr h ↦ rw (get_or_past b k 0 (omega (arith, right))) (omega arith)
]

not_same : (xs ys : List ℕ) → (xs ≡ ys → ⊥) → false ≡ bytes_eq xs ys
not_same xs ys other = by_test (bytes_eq xs ys) refl
  where
    by_test : (same : Bool) → bytes_eq xs ys ≡ same → false ≡ same
    by_test true e = absurd (other ((bytes_eq-Decides xs ys).0 e))
    by_test false e = refl

-- bytes of ASCII in the same place that are others
pub tells_other : (a b : List ℕ) (at n : ℕ) → IsAscii (take n (drop at a)) → IsAscii (take n (drop at b)) → (take n (drop at a) ≡ take n (drop at b) → ⊥) → Tells a b false
tells_other a b at n left right other there here = not_same (columns_by a there) (columns_by b here)
    (λ e. other (sym (part a there left) ∙ ap (λ l. take n (drop at l)) e ∙ part b here right))
  where
    part : (bytes beside : List ℕ) → IsAscii (take n (drop at bytes)) → take n (drop at (columns_by bytes beside)) ≡ take n (drop at bytes)
    part bytes beside ascii = sym (part-columns_by at n bytes beside) ∙ ascii-columns_by (take n (drop at bytes)) (drop at beside) ascii

column_plain : (bytes beside : List ℕ) (i : ℕ) → i < length bytes → get_or bytes i 0 < 128 → get_or (columns_by bytes beside) i 0 ≡ get_or bytes i 0
column_plain bytes beside i below low =
    column_at bytes beside i below ∙ ap (λ t. cond t (get_or bytes i 0) (get_or beside i (get_or bytes i 0))) (lt-ltb (get_or bytes i 0) 128 low)

-- and one byte
pub tells_apart : (a b : List ℕ) (i x y : ℕ) → i < length a → i < length b → x ≡ get_or a i 0 → y ≡ get_or b i 0 → bit_or x y < 128 → (x ≡ y → ⊥) → Tells a b false
tells_apart a b i x y left right ax by low other there here = not_same (columns_by a there) (columns_by b here)
    (λ e. other (ax ∙ sym (column_plain a there i left (omega (arith, sym ax, le_or_l x y, low))) ∙ ap (λ l. get_or l i 0) e
    ∙ column_plain b here i right (omega (arith, sym by, le_or_r x y, low)) ∙ sym by))

-- the same bytes of ASCII
pub tells_same : (a b : List ℕ) (n : ℕ) → length a ≤ n → length b ≤ n → take n a ≡ take n b → IsAscii (take n a) → Tells a b true
tells_same a b n left right same ascii there here =
    let all : a ≡ b = sym (take_all n a left) ∙ same ∙ take_all n b right in
    let low : IsAscii a = subst IsAscii (take_all n a left) ascii in
    sym ((bytes_eq-Decides (columns_by a there) (columns_by b here)).1
    (ascii-columns_by a there low ∙ all ∙ sym (ascii-columns_by b here (subst IsAscii all low))))

IsAscii-byte : (x : ℕ) → x < 128 → IsAscii (x ∷ [])
IsAscii-byte x low zero = low
IsAscii-byte x low (suc k) = omega arith

-- one more byte is the same, and ASCII
pub front_more : (a b : List ℕ) (i : ℕ) → length a ≡ length b → i < length a → get_or a i 0 ≡ get_or b i 0 → bit_or (get_or a i 0) (get_or b i 0) < 128 → IsSameFront a b i → IsSameFront a b (i + 1)
front_more a b i len below same low front = record {
  fits = omega (arith, below);
  same = take_more_same a b i 0 below (omega (arith, below, len)) front.same same;
  ascii = subst IsAscii (sym (take_more a i 0 below))
      (IsAscii-append (take i a) (get_or a i 0 ∷ []) front.ascii (IsAscii-byte (get_or a i 0) (omega (arith, le_or_l (get_or a i 0) (get_or b i 0), low))));
}

-- other numbers of four bytes are of other bytes
pub other_four : (m n : ℕ) (xs ys : List ℕ) → m < 2 ^ 32 → n < 2 ^ 32 → to_le_bytes w32 m ≡ xs → to_le_bytes w32 n ≡ ys → (m ≡ n → ⊥) → (xs ≡ ys → ⊥)
other_four m n xs ys left right here there other same =
    other (sym (from_le_bytes-to_le_bytes_4 m left) ∙ ap (from_le_bytes w32) (here ∙ same ∙ sym there) ∙ from_le_bytes-to_le_bytes_4 n right)

-- what bytes of so many columns from a place on tell of these
pub told_part : (a there b here : List ℕ) (first n : ℕ) (same : Bool) → Tells (take n (drop first a)) (take n (drop first b)) same
    → same ≡ bytes_eq (take n (drop first (columns_by a there))) (take n (drop first (columns_by b here)))
told_part a there b here first n same tells =
    tells (drop first there) (drop first here) ∙ ap (λ l. bytes_eq l (columns_by (take n (drop first b)) (drop first here))) (part-columns_by first n a there)
    ∙ ap (λ l. bytes_eq (take n (drop first (columns_by a there))) l) (part-columns_by first n b here)
