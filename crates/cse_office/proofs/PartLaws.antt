-- Laws of the part of two lines in which they differ.
use Rattle.std.proofs.Common.{◌≡◌, ℕ, zero, suc, ◌+◌, ◌-◌, ◌<◌, ◌≤◌, ◌⊎◌, ◌%◌, ◌^◌, Bool, false, not, ◌||◌, ◌&&◌, List, [], ◌∷◌, cond, leb, map, replicate, w8, length, get_or, take, drop, refl, ap, sym, ◌∙◌, arith, eq-eqb, inl, inr}
use Rattle.std.specs.Prelude.{◌==◌}
use Rattle.std.specs.Simd.Lanes.{mask_l, top, zip2}
use Rattle.std.specs.Str.{IsAscii}
use Rattle.std.proofs.lemmas.List.{get_or-drop, get_or-take, get_or_past, length-map}
use Rattle.std.proofs.lemmas.Simd.{mask_l-mod, tops_compared}
use Rattle.cse_lemmas.proofs.Booleans.{and-false}
use Rattle.cse_value.specs.declared.shape.ItemShape.{ItemShape}
use Rattle.cse_case.specs.Bytes.{columns_by}
use Rattle.cse_case.proofs.BytesLaws.{length-columns_by}
use Rattle.cse_office.specs.Changes.{DifferWithin, IsSameByte, differ, is_changed_own}
use Rattle.cse_office.proofs.ChangeLaws.{ascii_column}

-- ---- bytes

splat_left : (f : ℕ → ℕ → Bool) (x : ℕ) (ys : List ℕ) → zip2 f (replicate (length ys) x) ys ≡ map (f x) ys
splat_left f x [] = refl
splat_left f x (y ∷ ys) = ap (λ rest. f x y ∷ rest) (splat_left f x ys)

-- the mask of those that aren't ASCII
pub beyond_mask : (v : List ℕ) (n : ℕ) → length v ≡ n → n ≤ 64
    → mask_l (map (top 7) (zip2 (λ a b. cond (leb a b) 255 0) (replicate n 128) v)) % 2 ^ 64 ≡ mask_l (map (leb 128) v)
beyond_mask v n long small =
    ap (λ ms. mask_l ms % 2 ^ 64) (tops_compared w8 leb (replicate n 128) v ∙ ap (λ m. zip2 leb (replicate m 128) v) (sym long) ∙ splat_left leb 128 v)
    ∙ mask_l-mod (map (leb 128) v) 64 (omega (arith, length-map v (leb 128)))

-- a byte among so many from a place on
pub byte_in : (a : List ℕ) (at n p : ℕ) → at ≤ p → p < at + n → get_or (take n (drop at a)) (p - at) 0 ≡ get_or a p 0
byte_in a at n p from to =
    let back : at + (p - at) ≡ p = omega arith in
    get_or-take n (drop at a) (p - at) 0 (omega arith) ∙ (get_or-drop at a (p - at) 0 ∙ ap (λ k. get_or a k 0) back)

pub same_piece : (a b : List ℕ) (at n : ℕ) → at + n ≤ length a → at + n ≤ length b → take n (drop at a) ≡ take n (drop at b) → IsAscii (take n (drop at a))
    → (p : ℕ) → at ≤ p → p < at + n → IsSameByte a b p
same_piece a b at n room room' same ascii p from to =
    let here = byte_in a at n p from to in
    record {
      within = omega arith;
      within_after = omega arith;
      ascii = omega (arith, ascii (p - at), here);
      same = sym here ∙ (ap (λ l. get_or l (p - at) 0) same ∙ byte_in b at n p from to);
    }

-- ---- columns

pub same_column : (a b beside beside' : List ℕ) (p : ℕ) → IsSameByte a b p → get_or (columns_by a beside) p 32 ≡ get_or (columns_by b beside') p 32
same_column a b beside beside' p is =
    ascii_column a beside p 32 is.within is.ascii ∙ (is.same ∙ sym (ascii_column b beside' p 32 is.within_after (omega (arith, is.ascii, is.same))))

pub past_column : (a b beside beside' : List ℕ) (p : ℕ) → length a ≤ p → length b ≤ p → get_or (columns_by a beside) p 32 ≡ get_or (columns_by b beside') p 32
past_column a b beside beside' p low low' =
    get_or_past (columns_by a beside) p 32 (omega (arith, length-columns_by a beside)) ∙ sym (get_or_past (columns_by b beside') p 32 (omega (arith, length-columns_by b beside')))

-- ---- items

differ_none_of : (at n : ℕ) (a b : List ℕ) → ((p : ℕ) → at ≤ p → p < at + n → get_or a p 32 ≡ get_or b p 32) → differ at n a b ≡ false
unfolding differ
differ_none_of at zero a b same = refl
differ_none_of at (suc n) a b same =
    ap (λ x. not x || differ (at + 1) n a b) (eq-eqb (get_or a at 32) (get_or b at 32) (same at (omega arith) (omega arith)))
    ∙ differ_none_of (at + 1) n a b (λ p from to. same p (omega arith) (omega arith))

pub outside_same : (owner : ℕ) (item : ItemShape) (first end : ℕ) (a b : List ℕ) → DifferWithin first end a b → (item.start - 1 + item.len ≤ first) ⊎ (end ≤ item.start - 1)
    → is_changed_own owner item a b ≡ false
outside_same owner item first end a b d outside =
    let none : differ (item.start - 1) item.len a b ≡ false = elim outside [
      | inl h ↦ differ_none_of (item.start - 1) item.len a b (λ p from to. d.front p (omega arith))
      | inr h ↦ differ_none_of (item.start - 1) item.len a b (λ p from to. d.back p (omega arith))
    ] in
    ap (λ t. item.owner == owner && t) none ∙ and-false (item.owner == owner)
