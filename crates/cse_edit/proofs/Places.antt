-- The places of marks.
use Rattle.std.proofs.Common.{◌≡◌, ℕ, zero, suc, ◌+◌, ◌<◌, ◌≤◌, List, [], ◌∷◌, ◌++◌, length, get_or, refl, sym, ap, ◌∙◌, arith, cond, replicate, inl, inr}
use Rattle.std.specs.Prelude.{Bool, true, false, ◌||◌, nat_eq, slice_set, slice_index_or}
use Rattle.std.specs.List.{filter, list_any, range_with_len}
use Rattle.std.proofs.lemmas.Bool.{cases_eq, eq-eqb, ne_eqb}
use Rattle.std.proofs.lemmas.List.{get_or-set_same, get_or-set_other, get_or-replicate}
use Rattle.std.proofs.Math.ListN.{length-set, length-replicate}
use Rattle.cse_lemmas.proofs.Booleans.{or-false}
use Rattle.cse_logic_tree.specs.Typed.{Tree}
use Rattle.cse_edit.specs.Items.{is_written, written_by_tree}
use Rattle.cse_edit.specs.Marks.{marked}

pub length_marked : (marks : List Bool) (items : List ℕ) → length (marked marks items) ≡ length marks
unfolding marked
length_marked marks [] = refl
length_marked marks (x ∷ xs) = length_marked (slice_set marks x true) xs ∙ length-set marks x true

or_true : (b c : Bool) → true ≡ (b || (true || c))
or_true true c = refl
or_true false c = refl

-- an item is marked where it was, or is one of these
marked_at : (marks : List Bool) (items : List ℕ) (i : ℕ) → i < length marks → get_or (marked marks items) i false ≡ (get_or marks i false || list_any (λ x. nat_eq i x) items)
unfolding marked
marked_at marks [] i below = sym (or-false (get_or marks i false))
marked_at marks (x ∷ xs) i below =
    let rest = marked_at (slice_set marks x true) xs i (omega (arith, length-set marks x true)) in
    elim (cases_eq i x) [
      | inl same ↦
          let set : get_or (slice_set marks x true) i false ≡ true = ap (λ j. get_or (slice_set marks j true) i false) (sym same) ∙ get_or-set_same marks i true false below in
          rest ∙ (ap (λ b. b || list_any (λ x. nat_eq i x) xs) set
          ∙ (or_true (get_or marks i false) (list_any (λ x. nat_eq i x) xs)
          ∙ ap (λ b. get_or marks i false || (b || list_any (λ x. nat_eq i x) xs)) (sym (eq-eqb i x same))))
      | inr other ↦
          rest ∙ (ap (λ b. b || list_any (λ x. nat_eq i x) xs) (get_or-set_other marks x i true false other)
          ∙ ap (λ b. get_or marks i false || (b || list_any (λ x. nat_eq i x) xs)) (sym (ne_eqb i x other)))
    ]

-- ---- the numbers at which a test gives true

filter_same : (f g : ℕ → Bool) (a n : ℕ) → ((i : ℕ) → a ≤ i → i < a + n → f i ≡ g i) → filter f (range_with_len a n) ≡ filter g (range_with_len a n)
filter_same f g a zero same = refl
filter_same f g a (suc n) same =
    ap (λ b. cond b (a ∷ filter f (range_with_len (a + 1) n)) (filter f (range_with_len (a + 1) n))) (same a (omega arith) (omega arith))
    ∙ ap (λ l. cond (g a) (a ∷ l) l) (filter_same f g (a + 1) n (λ i low high. same i (omega arith) (omega arith)))

onto : (b : Bool) (a : ℕ) (xs ys : List ℕ) → cond b (a ∷ (xs ++ ys)) (xs ++ ys) ≡ cond b (a ∷ xs) xs ++ ys
onto true a xs ys = refl
onto false a xs ys = refl

filter_more : (f : ℕ → Bool) (a n : ℕ) → filter f (range_with_len a (suc n)) ≡ filter f (range_with_len a n) ++ cond (f (a + n)) ((a + n) ∷ []) []
filter_more f a zero = let e : a ≡ a + 0 = omega arith in ap (λ i. cond (f i) (i ∷ []) []) e
filter_more f a (suc n) =
    let e : a + 1 + n ≡ a + suc n = omega arith in
    ap (λ l. cond (f a) (a ∷ l) l) (filter_more f (a + 1) n ∙ ap (λ i. filter f (range_with_len (a + 1) n) ++ cond (f i) (i ∷ []) []) e)
    ∙ onto (f a) a (filter f (range_with_len (a + 1) n)) (cond (f (a + suc n)) ((a + suc n) ∷ []) [])

pub one_more : (f : ℕ → Bool) (n : ℕ) → filter f (range_with_len 0 (n + 1)) ≡ filter f (range_with_len 0 n) ++ cond (f n) (n ∷ []) []
one_more f n =
    let e : n + 1 ≡ suc n = omega arith in
    let z : 0 + n ≡ n = omega arith in
    ap (λ m. filter f (range_with_len 0 m)) e ∙ filter_more f 0 n ∙ ap (λ m. filter f (range_with_len 0 n) ++ cond (f m) (m ∷ []) []) z

-- the marks of a source tell the items that it writes
pub marks_tell : (t : Tree) (n many : ℕ) (marks : List Bool) → marks ≡ marked (replicate n false) (written_by_tree t) → n ≡ many
    → filter (λ i. slice_index_or marks i false) (range_with_len 0 (length marks)) ≡ filter (is_written t) (range_with_len 0 many)
marks_tell t n many marks is same =
    let none = replicate n false in
    let size : length marks ≡ many = ap length is ∙ length_marked none (written_by_tree t) ∙ length-replicate n false ∙ same in
    ap (λ m. filter (λ i. get_or marks i false) (range_with_len 0 m)) size
    ∙ filter_same (λ i. get_or marks i false) (is_written t) 0 many (λ i low high.
    let below : i < n = omega (arith, same) in
    ap (λ l. get_or l i false) is
    ∙ marked_at none (written_by_tree t) i (omega (arith, length-replicate n false))
    ∙ ap (λ b. b || is_written t i) (get_or-replicate n i false false below))
